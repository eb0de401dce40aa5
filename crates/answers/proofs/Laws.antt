-- Rules in a row: the first that is broken, and that none is. Assumes nothing.
use Prim.Native.Nat.{ℕ}
use mathlib.Core.Path.{◌≡◌, refl}
use mathlib.Core.Bool.{Bool, true, false, cond, and-eq-true_iff}
use mathlib.Core.List.{List, [], ◌∷◌, ◌++◌}
use native.Mathlib.Omega.{arith}
use lib.Dec.{ltb, eqb}
use borrow.Author.Tests.{ne_eqb, ltb-true}
use Rattle.wire.proofs.Laws.{unlike}
use Rattle.wire.specs.RuleWords.{every}
use Rattle.answers.specs.Demands.{first_broken, all_kept, AllKept}

-- no rule has the number 0
abbrev pub numbered : List (ℕ × Bool) → Bool
numbered rows = every (λ row. ltb 0 row.0) rows

-- where all are kept, what comes after the rules
pub none_broken : (rows : List (ℕ × Bool)) (later : ℕ) → AllKept rows → first_broken rows later ≡ later
unfolding first_broken every
none_broken [] later h = refl
none_broken ((n, true) ∷ rows) later h = none_broken rows later h
none_broken ((n, false) ∷ rows) later h = unlike cc

-- rules behind others come after them
pub broken_behind : (rows more : List (ℕ × Bool)) (later : ℕ) → first_broken (rows ++ more) later ≡ first_broken rows (first_broken more later)
unfolding first_broken
broken_behind [] more later = refl
broken_behind ((n, true) ∷ rows) more later = broken_behind rows more later
broken_behind ((n, false) ∷ rows) more later = refl

-- what comes after the rules is asked where none of them is broken
pub broken_first : (rows : List (ℕ × Bool)) (later : ℕ) → numbered rows ≡ true
    → first_broken rows later ≡ cond (eqb (first_broken rows 0) 0) later (first_broken rows 0)
unfolding first_broken every
broken_first [] later h = refl
broken_first ((n, true) ∷ rows) later h = broken_first rows later ((and-eq-true_iff (ltb 0 n) (numbered rows)).0 h).1
broken_first ((n, false) ∷ rows) later h =
    let some = ltb-true 0 n ((and-eq-true_iff (ltb 0 n) (numbered rows)).0 h).0 in
    rw (ne_eqb n 0 (omega arith))

-- none is broken exactly if all are kept
pub broken_kept : (rows : List (ℕ × Bool)) → numbered rows ≡ true → eqb (first_broken rows 0) 0 ≡ all_kept rows
unfolding first_broken every
broken_kept [] h = refl
broken_kept ((n, true) ∷ rows) h = broken_kept rows ((and-eq-true_iff (ltb 0 n) (numbered rows)).0 h).1
broken_kept ((n, false) ∷ rows) h =
    let some = ltb-true 0 n ((and-eq-true_iff (ltb 0 n) (numbered rows)).0 h).0 in
    ne_eqb n 0 (omega arith)
