-- At every turn the occurrence that is left to seek, from the place that is reached, is the one that was asked for: each first field
-- with the tag that is found counts for one. After the last turn the first is it.
use mathlib.Core.Path.{◌≡◌}
use Prim.Native.Nat.{◌+◌, ◌-◌}
use Rattle.header.specs.Fields.{fields_from, with_tag, occurring}
use Rattle.header.proofs.find.Given as goal

abbrev pub invariant-loop-passed : goal.invariant-loop-passed
invariant-loop-passed l = occurring (l.occurrence + 1 - l._passed) (with_tag l.tag (fields_from l.s l.from)) ≡ occurring l.occurrence (with_tag l.tag (fields_from l.s l.at))
