-- A chain that asks a rule of every number of a range: `(a..b).all(|k| ..)` answers as `all_in` does. Assumes nothing.
use Prim.Native.Nat.{ℕ, ◌+◌, ◌-◌, ◌≤◌, ◌<◌}
use mathlib.Core.Path.{◌≡◌, refl, sym, subst, ◌∙◌}
use mathlib.Core.Bool.{Bool, true, false}
use mathlib.Core.List.{List}
use native.Mathlib.Omega.{arith}
use lib.ListN.{length, get_or}
use denote.Param.Members.{Mut}
use Rattle.std.specs.Prelude.{Option}
use Rattle.std.specs.Bool.{MatchBool}
use Rattle.std.specs.Fn.{Called}
use Rattle.std.specs.Iterator.{YieldsThen}
use Rattle.std.specs.List.{range_with_len, FoldsTo, AllWithin, HoldsAt}
use Rattle.std.specs.Option.{MatchOption}
use Rattle.std.specs.declared.ops.Range.{Range}
use Rattle.std.proofs.iter.Yields.{nat_range_steps}
use Rattle.std.proofs.lemmas.Iterator.{cases_from_all, YieldsList-from_range}
use Rattle.wire.specs.RuleWords.{all_in}
use Rattle.std.proofs.lemmas.List.FromFn.{get_or-range_with_len, length-range_with_len}
use Rattle.wire.proofs.Laws.{all_at, all_all}

-- a rule that one number of a range breaks is broken
all_false : (p : ℕ → Bool) (a b k : ℕ) → a ≤ k → k < b → p k ≡ false → all_in a b p ≡ false
all_false p a b k l m h = go (all_in a b p) refl
  where
    go : (w : Bool) → all_in a b p ≡ w → all_in a b p ≡ false
    go false e = e
    go true e = let t = all_at p a b e k l m in let z = rw h at t in cc

-- the answer of `all` over a range, by what its closure answers for each number
pub all_over : {F : Type 0} {g : Mut F (ℕ × Unit {0}) Bool} {s : Range ℕ} (u : Range ℕ) (f : F) (r : Bool) (a b : ℕ) (p : ℕ → Bool)
    → s ≡ record { start = a; end = b }
    → (xs : List ℕ) × (o : Option ℕ) × (j : F) × YieldsThen nat_range_steps s xs o u × FoldsTo (λ q x t. Called g q (x, tt) true t) f xs j
    × MatchOption o (r ≡ true) (λ x. (r ≡ false) × ((h : F) × Called g j (x, tt) false h))
    → ((x : ℕ) (q : F) → Called g f (x, tt) true q → (q ≡ f) × (p x ≡ true))
    → ((x : ℕ) (q : F) → Called g f (x, tt) false q → p x ≡ false)
    → r ≡ all_in a b p
all_over u f r a b p e ran good bad = answers r
    (cases_from_all u f r (λ x. p x ≡ true) (λ x. p x ≡ false) ran (YieldsList-from_range a b (b - a) e refl) good bad)
  where
    nth : (k : ℕ) → a ≤ k → k < b → get_or (range_with_len a (b - a)) (k - a) 0 ≡ k
    nth k l m = get_or-range_with_len a (b - a) (k - a) 0 (omega arith) ∙ (omega arith)

    answers : (r : Bool) → MatchBool r (AllWithin (λ x. p x ≡ true) (range_with_len a (b - a)) 0 (length (range_with_len a (b - a))))
        ((k : ℕ) × (k < length (range_with_len a (b - a))) × HoldsAt (λ x. p x ≡ false) (range_with_len a (b - a)) k)
        → r ≡ all_in a b p
    answers true h = sym (all_all p a b (λ k l m. subst (λ x. p x ≡ true) (nth k l m) (h (k - a) 0 (omega arith) (omega (arith, length-range_with_len a (b - a))))))
    answers false (k, l, m) = sym (all_false p a b (a + k) (omega arith) (omega (arith, length-range_with_len a (b - a))) (subst (λ x. p x ≡ false) (get_or-range_with_len a (b - a) k 0 (omega (arith, length-range_with_len a (b - a)))) (m 0)))
