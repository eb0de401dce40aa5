-- From value i on the one table's cost is exact, and the work space has the way.
use Prim.Native.Nat.{suc, ◌≤◌}
use mathlib.Core.Path.{◌≡◌}
use mathlib.Core.List.{List}
use lib.ListN.{length, drop}
use Rattle.samples.specs.Differences.{differences}
use Rattle.tables.specs.declared.Structure.{Structure}
use Rattle.compiled.specs.InnerForm.{Compiled}
use Rattle.paths.specs.InnerPaths.{Exact}
use Rattle.shortest.specs.InnerRule.{rule}
use Rattle.search.specs.InnerSearch.{cap, at, Trail, Known}
use Rattle.search.proofs.Layers.{alone}
use Rattle.search.proofs.one_table.Given as goal

abbrev pub invariant-loop-i : goal.invariant-loop-i
invariant-loop-i l = (l.cost ≤ suc cap) × Known l.tab l.known
    × ((tables : List (List Structure)) → Compiled tables l.tab → length tables ≡ 1
    → Exact (rule tables) cap (drop l.i (differences l.order l.xs)) (at (alone l.cost)) × Trail tables (differences l.order l.xs) l.work l.i)
