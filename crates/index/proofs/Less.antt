-- One list of numbers before another, element by element. Assumes nothing.
use Prim.Native.Nat.{ℕ, suc, min, ◌<◌}
use mathlib.Core.Path.{◌≡◌, refl, ◌∙◌}
use mathlib.Core.Bool.{Bool, true, false, cond, ◌&&◌, ◌||◌, or-false, and-false}
use mathlib.Core.List.{List, [], ◌∷◌}
use native.Mathlib.Omega.{arith}
use lib.Dec.{ltb, eqb}
use native.Mathlib.Decide.{dec_lt}
use lib.ListN.{length, get_or, drop, drop_of_length-le}
use lib.Seq.{drop-cons}
use borrow.Author.Tests.{le-ltb, lt-ltb, eq-eqb, ne_eqb}
use Rattle.std.specs.Prelude.{Option, Some}
use Rattle.std.proofs.Common.{Ordering, Less, Equal, Greater}
use Rattle.std.specs.Ordering.{nat_cmp, is_lt, is_some_and, partial_ordering_then}
use Rattle.fields.specs.Identifier.{same}
use Rattle.index.specs.declared.Date.{Date}
use Rattle.index.specs.InnerSteps.{date_in}
use Rattle.index.specs.Order.{less}

-- elements that are equal leave it to those behind them
pub less_equal : (x y : ℕ) (a b : List ℕ) → x ≡ y → less (x ∷ a) (y ∷ b) ≡ less a b
unfolding less
less_equal x y a b e = rw (le-ltb x y (omega arith), eq-eqb x y e)

-- elements that differ decide
pub less_differ : (x y : ℕ) (a b : List ℕ) → (x ≡ y → ⊥) → less (x ∷ a) (y ∷ b) ≡ ltb x y
unfolding less
less_differ x y a b e = rw (ne_eqb x y e) (or-false (ltb x y))

-- nothing comes before itself
less_self : (a : List ℕ) → less a a ≡ false
unfolding less
less_self [] = refl
less_self (x ∷ a) = less_equal x x a a refl ∙ less_self a

-- ---- and where they are the same, something else decides

abbrev pub decided : List ℕ → List ℕ → Bool → Bool
decided a b then = less a b || (same a b && then)

-- on one day the lists decide alone
pub decided_alone : (a b d : List ℕ) → decided a b (less d d) ≡ less a b
decided_alone a b d = rw (less_self d, and-false (same a b)) (or-false (less a b))

-- from a place on, where neither has ended: equal elements leave it to those behind them
module _ (a b : List ℕ) (i : ℕ) (then : Bool) (h : i < length a) (k : i < length b) where
  pub decided_turn : get_or a i 0 ≡ get_or b i 0 → decided (drop i a) (drop i b) then ≡ decided (drop (suc i) a) (drop (suc i) b) then
  unfolding same
  decided_turn e =
      rw (
        drop-cons a i 0 h,
        drop-cons b i 0 k,
        less_equal (get_or a i 0) (get_or b i 0) (drop (suc i) a) (drop (suc i) b) e,
        eq-eqb (get_or a i 0) (get_or b i 0) e,
      )

  -- and elements that differ decide
  pub decided_here : (get_or a i 0 ≡ get_or b i 0 → ⊥) → decided (drop i a) (drop i b) then ≡ ltb (get_or a i 0) (get_or b i 0)
  unfolding same
  decided_here e =
      rw (
        drop-cons a i 0 h,
        drop-cons b i 0 k,
        less_differ (get_or a i 0) (get_or b i 0) (drop (suc i) a) (drop (suc i) b) e,
        ne_eqb (get_or a i 0) (get_or b i 0) e,
      )
      (or-false (ltb (get_or a i 0) (get_or b i 0)))

-- where one has ended and not the other, the shorter comes first; where both have, they are the same
module _ (a b : List ℕ) (i : ℕ) (then : Bool) (h : i ≡ min (length a) (length b)) where
  pub decided_ended : (length a ≡ length b → ⊥) → decided (drop i a) (drop i b) then ≡ ltb (length a) (length b)
  unfolding less same
  decided_ended differ = go (dec_lt (length a) (length b))
    where
      go : Dec (length a < length b) → decided (drop i a) (drop i b) then ≡ ltb (length a) (length b)
      go (yes k) = rw (drop_of_length-le a {i = i} (omega arith), drop-cons b i 0 (omega arith), lt-ltb (length a) (length b) k)
      go (no k) =
          rw (drop-cons a i 0 (omega (arith, differ)), drop_of_length-le b {i = i} (omega arith), le-ltb (length a) (length b) (omega arith))

  pub decided_same : length a ≡ length b → decided (drop i a) (drop i b) then ≡ then
  unfolding less same
  decided_same e = rw (drop_of_length-le a {i = i} (omega arith), drop_of_length-le b {i = i} (omega arith))

-- ---- days, as std compares them

-- the days in the order of their numbers
abbrev pub by_day : Date → Date → Option Ordering
by_day d f =
    partial_ordering_then (Some (nat_cmp d.year f.year))
    (partial_ordering_then (Some (nat_cmp d.month f.month)) (Some (nat_cmp d.day f.day)))

pub days_less : (d f : Date) → is_some_and is_lt (by_day d f) ≡ less (date_in d) (date_in f)
unfolding less
days_less d f = go (ltb d.year f.year) (eqb d.year f.year) (ltb d.month f.month) (eqb d.month f.month) (ltb d.day f.day) (eqb d.day f.day)
  where
    go : (ly ey lm em ld ed : Bool)
        → is_some_and is_lt (partial_ordering_then (Some (cond ly Less (cond ey Equal Greater)))
        (partial_ordering_then (Some (cond lm Less (cond em Equal Greater))) (Some (cond ld Less (cond ed Equal Greater)))))
        ≡ ly || (ey && (lm || (em && (ld || (ed && false)))))
    go true ey lm em ld ed = refl
    go false false lm em ld ed = refl
    go false true true em ld ed = refl
    go false true false false ld ed = refl
    go false true false true true ed = refl
    go false true false true false true = refl
    go false true false true false false = refl
