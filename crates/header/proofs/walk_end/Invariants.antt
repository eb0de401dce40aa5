-- At every turn the fields from the place that is reached end where all of them end; where the step shows no field, they end at that place.
use mathlib.Core.Path.{◌≡◌}
use Prim.Native.Nat.{◌-◌}
use lib.ListN.{length}
use Rattle.header.specs.Fields.{fields_from, fields_end}
use Rattle.header.proofs.walk_end.Given as goal

abbrev pub invariant-loop-f : goal.invariant-loop-f
invariant-loop-f l = fields_end l.end (fields_from l.s l.end) ≡ fields_end l.at (fields_from l.s l.at)

abbrev pub decreases-loop-f : goal.decreases-loop-f
decreases-loop-f l = length l.s - l.end
