-- Identifiers are compared word by word: as long as the words agree, what is left decides; the first that differ decide. The rest is
-- compared byte by byte.
use Prim.Native.Nat.{◌-◌, ◌≤◌}
use mathlib.Core.Path.{◌≡◌}
use lib.ListN.{drop}
use Rattle.index.specs.InnerSteps.{before_by}
use Rattle.index.proofs.is_before.Given as goal

abbrev pub invariant-loop-i : goal.invariant-loop-i
invariant-loop-i l = (l.i ≤ l.n) × (before_by (drop l.i l.a) l.date (drop l.i l.b) l.other ≡ before_by l.a l.date l.b l.other)

abbrev pub decreases-loop-i : goal.decreases-loop-i
decreases-loop-i l = l.n - l.i
