-- At every turn the bytes still to come lead the register to the definition's answer; after the last the register is that answer.
use mathlib.Core.Path.{◌≡◌}
use lib.ListN.{drop}
use Rattle.wire.specs.Check.{crc_from}
use Rattle.wire.proofs.by_bytes.Given as goal

abbrev pub invariant-loop-b : goal.invariant-loop-b
invariant-loop-b l = crc_from l.x (drop l.b-index l.s) ≡ crc_from l.c l.s
