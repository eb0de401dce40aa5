-- The register's eight bits at once, as the law has them.
use lib.Bits.{bit_xor}
use Prim.Native.Nat.{◌*◌}
use native.Mathlib.Omega.{arith}
use Rattle.wire.specs.Check.{crc_byte}
use Rattle.wire.proofs.Laws.{mixed_small}
use Rattle.wire.proofs.Powers.{eight, eight_bits}
use Rattle.wire.proofs.crc_byte.Goals as goal

pub returns : goal.returns
unfolding crc_byte eight
returns c = eight_bits (bit_xor c.args.c (c.args.b * 256)) (mixed_small c.args.c c.args.b (omega arith) (omega arith))
