-- The sum is the number of the eight bytes' bits.
use native.Mathlib.Omega.{arith}
use Rattle.bits.proofs.Windows.{eight_bytes}
use Rattle.bits.proofs.word.Goals as goal

pub returns : goal.returns
returns c = let a = c.args in
    omega (arith, eight_bytes a.s.now a.i (λ j. omega (arith, c.type_inv.s j)) (omega arith))
