-- From value i on the costs are exact, and the work space has the way.
use mathlib.Core.Path.{◌≡◌}
use mathlib.Core.List.{List}
use lib.ListN.{length, drop}
use Rattle.samples.specs.Differences.{differences}
use Rattle.tables.specs.declared.Structure.{Structure}
use Rattle.compiled.specs.InnerForm.{Compiled}
use Rattle.paths.specs.InnerPaths.{Exact}
use Rattle.shortest.specs.InnerRule.{rule}
use Rattle.search.specs.InnerSearch.{cap, at, Trail, Known, NineCosts}
use Rattle.search.proofs.all_layers.Given as goal

abbrev pub invariant-loop-i : goal.invariant-loop-i
invariant-loop-i l = NineCosts l.next × Known l.tab l.known
    × ((tables : List (List Structure)) → Compiled tables l.tab → length tables ≡ l.n
    → Exact (rule tables) cap (drop l.i (differences l.order l.xs)) (at l.next) × Trail tables (differences l.order l.xs) l.work l.i)
