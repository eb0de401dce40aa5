-- The bits left fall with each table that the stream runs through.
use Rattle.samples.specs.Differences.{differences}
use Rattle.encode.specs.InnerEncode.{PartWrittenBy}
use Rattle.encode.proofs.walk.Given as goal

abbrev pub invariant-loop-gone : goal.invariant-loop-gone
invariant-loop-gone l = PartWrittenBy l.tab l.n (differences l.order l.xs) l.bits l.initial.out l.out l.gone.sink l.gone.i l.gone.t l.gone.left

abbrev pub decreases-loop-gone : goal.decreases-loop-gone
decreases-loop-gone l = l.gone.left
