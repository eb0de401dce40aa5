-- The values before i have 16 bits.
use Rattle.samples.specs.Differences.{differences}
use Rattle.encode.proofs.Plain.{Inside}
use Rattle.encode.proofs.plain_bits.Given as goal

abbrev pub invariant-loop-i : goal.invariant-loop-i
invariant-loop-i l = Inside (differences l.order l.xs) l.i
