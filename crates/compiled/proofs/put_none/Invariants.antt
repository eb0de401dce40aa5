-- With the tables below t done, those from n on have no structure, and the numbers below table n are as they were.
use Prim.Native.Nat.{ℕ, ◌*◌, ◌≤◌, ◌<◌}
use mathlib.Core.Path.{◌≡◌}
use mathlib.Core.List.{[]}
use lib.ListN.{get_or}
use Rattle.compiled.specs.InnerForm.{Says}
use Rattle.compiled.proofs.put_none.Given as goal

abbrev pub invariant-loop-t : goal.invariant-loop-t
invariant-loop-t l = ((u : ℕ) → u < l.t → l.n ≤ u → Says [] l.tab u)
    × ((i : ℕ) → i < l.n * 385 → get_or l.tab i 0 ≡ get_or l.initial.tab i 0)
