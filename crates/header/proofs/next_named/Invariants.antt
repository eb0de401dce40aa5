-- At every turn the first field with the tag from the place that is reached is the first of all: a field that the step shows with
-- another tag is passed over, one with the tag is it, and where the step shows none there is none.
use mathlib.Core.Path.{◌≡◌}
use Prim.Native.Nat.{◌-◌}
use lib.ListN.{length}
use Rattle.header.specs.Fields.{fields_from, with_tag, occurring}
use Rattle.header.proofs.next_named.Given as goal

abbrev pub invariant-loop-f : goal.invariant-loop-f
invariant-loop-f l = occurring 1 (with_tag l.tag (fields_from l.s l.from)) ≡ occurring 1 (with_tag l.tag (fields_from l.s l.at))

abbrev pub decreases-loop-f : goal.decreases-loop-f
decreases-loop-f l = length l.s - l.from
