-- At every turn all entries up to the last one seen were judged, and those behind it decide.
use Prim.Native.Nat.{◌-◌}
use lib.ListN.{length}
use Rattle.index.proofs.Walk.{Judged}
use Rattle.index.proofs.is_index.Given as goal

abbrev pub invariant-loop-last : goal.invariant-loop-last
invariant-loop-last l = Judged l.s l.last

abbrev pub decreases-loop-last : goal.decreases-loop-last
decreases-loop-last l = length l.s - l.last.next
