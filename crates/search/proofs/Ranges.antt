-- A chain that asks whether any number of a range is of a kind: answered false, none is. Assumes nothing.
use Prim.Native.Nat.{ℕ, ◌-◌, ◌≤◌, ◌<◌}
use mathlib.Core.Path.{◌≡◌, refl, ◌∙◌, subst}
use mathlib.Core.Bool.{Bool, true, false}
use mathlib.Core.List.{List}
use native.Mathlib.Omega.{arith}
use lib.ListN.{length, get_or}
use denote.Param.Members.{Mut}
use Rattle.std.specs.Prelude.{Option}
use Rattle.std.specs.Bool.{MatchBool}
use Rattle.std.specs.Fn.{Called}
use Rattle.std.specs.Iterator.{YieldsThen}
use Rattle.std.specs.List.{range_with_len, FoldsTo, AllWithin, HoldsAt}
use Rattle.std.specs.Option.{MatchOption}
use Rattle.std.specs.declared.ops.Range.{Range}
use Rattle.std.proofs.iter.Yields.{nat_range_steps}
use Rattle.std.proofs.lemmas.Iterator.{cases_from_any, YieldsList-from_range}
use Rattle.std.proofs.lemmas.List.FromFn.{get_or-range_with_len, length-range_with_len}

pub none_over : {F : Type 0} {g : Mut F (ℕ × Unit {0}) Bool} {s : Range ℕ} (u : Range ℕ) (f : F) (r : Bool) (a b : ℕ) (P : ℕ → Type 0)
    → s ≡ record { start = a; end = b }
    → (xs : List ℕ) × (o : Option ℕ) × (j : F) × YieldsThen nat_range_steps s xs o u × FoldsTo (λ q x t. Called g q (x, tt) false t) f xs j
    × MatchOption o (r ≡ false) (λ x. (r ≡ true) × ((h : F) × Called g j (x, tt) true h))
    → ((x : ℕ) (q : F) → Called g f (x, tt) false q → (q ≡ f) × P x)
    → r ≡ false → (k : ℕ) → a ≤ k → k < b → P k
none_over u f r a b P e ran bad z k l m =
    subst P (nth k l m) (all (k - a) 0 (omega arith) (omega (arith, length-range_with_len a (b - a))))
  where
    nth : (k : ℕ) → a ≤ k → k < b → get_or (range_with_len a (b - a)) (k - a) 0 ≡ k
    nth k l m = get_or-range_with_len a (b - a) (k - a) 0 (omega arith) ∙ (omega arith)

    all : AllWithin P (range_with_len a (b - a)) 0 (length (range_with_len a (b - a)))
    all = subst (λ (w : Bool). MatchBool w ((k : ℕ) × (k < length (range_with_len a (b - a))) × HoldsAt (λ (x : ℕ). Unit {0}) (range_with_len a (b - a)) k)
        (AllWithin P (range_with_len a (b - a)) 0 (length (range_with_len a (b - a))))) z
        (cases_from_any u f r (λ x. Unit {0}) P ran (YieldsList-from_range a b (b - a) e refl) (λ x q h. tt) bad)
