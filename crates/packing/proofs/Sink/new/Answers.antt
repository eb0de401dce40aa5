-- No byte is written, and no bit is kept.
use mathlib.Core.Path.{refl}
use native.Mathlib.Omega.{arith}
use Rattle.bits.specs.Bits.{high_first, bits_in}
use Rattle.packing.proofs.Sink.new.Goals as goal

pub returns : goal.returns
unfolding high_first bits_in
returns c = λ out. record { bits = refl; at = omega arith }
