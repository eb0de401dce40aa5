-- The bits left fall with each code of the table.
use Prim.Native.Nat.{◌≤◌}
use Rattle.samples.specs.Differences.{differences}
use Rattle.encode.specs.InnerEncode.{PartWrittenBy}
use Rattle.encode.proofs.run.Given as goal

abbrev pub invariant-loop-left : goal.invariant-loop-left
invariant-loop-left l = PartWrittenBy l.tab l.n (differences l.order l.xs) l.bits l.initial.out l.out l.sink l.i l.t l.left × (l.left ≤ l.initial.left)

abbrev pub decreases-loop-left : goal.decreases-loop-left
decreases-loop-left l = l.left
