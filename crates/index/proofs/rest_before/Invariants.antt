-- Identifiers are compared from a place on: as long as they agree, what is left decides.
use mathlib.Core.Path.{◌≡◌}
use lib.ListN.{drop}
use Rattle.index.specs.InnerSteps.{before_by}
use Rattle.index.proofs.rest_before.Given as goal

abbrev pub invariant-loop-i : goal.invariant-loop-i
invariant-loop-i l = before_by (drop l.i l.a) l.date (drop l.i l.b) l.other ≡ before_by (drop l.from l.a) l.date (drop l.from l.b) l.other
