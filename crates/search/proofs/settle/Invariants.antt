-- The last tables before t, round the n tables, are shut (`Quiet`); when they are all, the costs are settled. A change makes the sum of
-- costs smaller.
use Prim.Native.Nat.{ℕ, ◌+◌, ◌-◌, ◌*◌, ◌≤◌, ◌<◌}
use mathlib.Core.Path.{◌≡◌}
use mathlib.Core.List.{List}
use lib.IntN.{ℤ}
use lib.ListN.{length}
use Rattle.bits.specs.InnerRaised.{from_zero}
use Rattle.tables.specs.declared.Structure.{Structure}
use Rattle.compiled.specs.InnerForm.{Compiled}
use Rattle.search.specs.InnerSearch.{at, AllMet}
use Rattle.search.proofs.Settling.{total, Quiet}
use Rattle.search.proofs.settle.Given as goal

abbrev pub invariant-loop-quiet : goal.invariant-loop-quiet
invariant-loop-quiet l = (1 ≤ l.t) × (l.t ≤ l.n) × (l.quiet ≤ l.n) × (l.n ≤ 8) × (length l.cur ≡ 9) × ((u : ℕ) → u < 9 → at l.cur u ≤ at l.initial.cur u) × Quiet l.tab l.n l.cur l.t l.quiet
    × ((tables : List (List Structure)) (x : ℕ) (vs : List ℤ) → Compiled tables l.tab → length tables ≡ l.n
    → AllMet tables (from_zero 131072 x) vs l.initial.cur → AllMet tables (from_zero 131072 x) vs l.cur)

abbrev pub decreases-loop-quiet : goal.decreases-loop-quiet
decreases-loop-quiet l = 9 * total l.cur + (l.n - l.quiet)
