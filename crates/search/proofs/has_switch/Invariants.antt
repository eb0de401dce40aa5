-- None of the tables before t has a switch.
use Prim.Native.Nat.{ℕ, ◌≤◌, ◌<◌}
use mathlib.Core.Path.{◌≡◌}
use Rattle.search.specs.InnerSearch.{count_of, form_in}
use Rattle.search.proofs.has_switch.Given as goal

abbrev pub invariant-loop-t : goal.invariant-loop-t
invariant-loop-t l = (u : ℕ) → u < l.t → 1 ≤ u → (k : ℕ) → k < count_of l.tab u → (form_in l.tab u k).to ≡ 0
