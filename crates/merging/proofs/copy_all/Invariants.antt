-- At every turn the output has all that is merged up to both places; where b has no more, the rest of a ends it.
use Prim.Native.Nat.{◌-◌}
use lib.ListN.{length}
use Rattle.merging.proofs.Copied.{Copied}
use Rattle.merging.proofs.copy_all.Given as goal

abbrev pub invariant-loop-reached : goal.invariant-loop-reached
invariant-loop-reached l = Copied l.a l.b l.initial.out l.out l.reached.a l.reached.b

abbrev pub decreases-loop-reached : goal.decreases-loop-reached
decreases-loop-reached l = length l.b - l.reached.b
