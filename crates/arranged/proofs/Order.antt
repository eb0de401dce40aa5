-- The order of lists of numbers and of entries: what comes before what, and what counts as one. Assumes nothing.
use Prim.Native.Nat.{ℕ, ◌<◌}
use mathlib.Core.Path.{◌≡◌, refl, sym, ◌∙◌}
use mathlib.Core.Bool.{Bool, true, false, not, ◌&&◌, ◌||◌, and-eq-true_iff, and_comm, or-true}
use mathlib.Core.List.{List, [], ◌∷◌}
use mathlib.Core.Logic.{◌⊎◌, inl, inr}
use native.Mathlib.Decide.{ℕ_discrete, dec_lt}
use native.Mathlib.Omega.{arith}
use lib.Dec.{ltb, eqb}
use borrow.Author.Tests.{ltb-true, eqb-true, lt-ltb, le-ltb, eq-eqb, ne_eqb}
use Rattle.fields.specs.Identifier.{same}
use Rattle.fields.proofs.Identifiers.{same_equal}
use Rattle.index.specs.Entry.{Entry}
use Rattle.index.specs.Order.{less, date_of, before}
use Rattle.arranged.specs.Arranged.{alike}

-- ---- any order

-- exactly one of three tests is passed
pub data Exactly (p q r : Bool) : Type 0 where
  first : p ≡ true → q ≡ false → r ≡ false → Exactly p q r
  second : p ≡ false → q ≡ true → r ≡ false → Exactly p q r
  third : p ≡ false → q ≡ false → r ≡ true → Exactly p q r

-- a test of what comes before what, and one of what counts as one. Of any two either one comes before the other or they count as one, and
-- only one of these; what comes before b comes before all that b comes before; and two that count as one stand alike to any other
pub record Order {A : Type 0} (less like : A → A → Bool) : Type 0 where
  pub cases : (a b : A) → Exactly (less a b) (like a b) (less b a)
  pub onward : (a b c : A) → less a b ≡ true → less b c ≡ true → less a c ≡ true
  pub left : (a b c : A) → like a b ≡ true → less a c ≡ less b c
  pub right : (a b c : A) → like a b ≡ true → less c a ≡ less c b

-- the second of three tests is passed where the two others are not
second_is : {p q r : Bool} → Exactly p q r → q ≡ (not p && not r)
second_is (first a b c) = cc
second_is (second a b c) = cc
second_is (third a b c) = cc

-- exactly one of three tests is passed also where three others decide if it is the second
lex_cases : {p q r l e g : Bool} → Exactly p q r → Exactly l e g → Exactly (p || (q && l)) (q && e) (r || (q && g))
lex_cases (first a b c) rest = first (rw a) (rw b) (rw (b, c))
lex_cases (second a b c) rest = rw (a, b, c) rest
lex_cases (third a b c) rest = third (rw (a, b)) (rw b) (rw c)

-- a test is passed, or else two others are
lex_parts : (p q l : Bool) → p || (q && l) ≡ true → (p ≡ true) ⊎ ((q ≡ true) × (l ≡ true))
lex_parts true q l h = inl refl
lex_parts false q l h = inr ((and-eq-true_iff q l).0 h)

module _ {A : Type 0} {less like : A → A → Bool} (order : Order less like) where
  -- each counts as one with itself
  pub like_self : (a : A) → like a a ≡ true
  like_self a = elim (order.cases a a) [ first p q r ↦ cc | second p q r ↦ q | third p q r ↦ cc ]

  -- it does not matter which of the two is named first
  pub like_turned : (a b : A) → like a b ≡ like b a
  like_turned a b = second_is (order.cases a b) ∙ and_comm (not (less a b)) (not (less b a)) ∙ sym (second_is (order.cases b a))

  -- of two that count as one, none comes before the other
  pub like_not_less : (a b : A) → like a b ≡ true → less a b ≡ false
  like_not_less a b h = elim (order.cases a b) [ first p q r ↦ cc | second p q r ↦ p | third p q r ↦ p ]

  -- what comes before b does not count as one with b
  pub less_not_like : (a b : A) → less a b ≡ true → like a b ≡ false
  less_not_like a b h = elim (order.cases a b) [ first p q r ↦ q | second p q r ↦ cc | third p q r ↦ q ]

  -- nor does b come before it
  pub less_not_turned : (a b : A) → less a b ≡ true → less b a ≡ false
  less_not_turned a b h = elim (order.cases a b) [ first p q r ↦ r | second p q r ↦ r | third p q r ↦ cc ]

  -- what comes before b comes before all that does not come before b
  pub less_later : (a b c : A) → less a b ≡ true → less c b ≡ false → less a c ≡ true
  less_later a b c h k =
      elim (order.cases b c) [
        | first p q r ↦ order.onward a b c h p
        | second p q r ↦ sym (order.right b c a q) ∙ h
        | third p q r ↦ cc
      ]

  -- what does not come before b does not come before anything that b does not come before
  pub not_less_onward : (a b c : A) → less b a ≡ false → less c b ≡ false → less c a ≡ false
  not_less_onward a b c h k =
      elim (order.cases c a) [ first p q r ↦ (let l = less_later c a b p h in cc) | second p q r ↦ p | third p q r ↦ p ]

  -- what counts as one with b counts as one with all that counts as one with b
  like_onward : (a b c : A) → like a b ≡ true → like b c ≡ true → like a c ≡ true
  like_onward a b c h k =
      let p = order.left a b c h in
      let q = like_not_less b c k in
      let r = order.right a b c h in
      let t = like_not_less c b (like_turned c b ∙ k) in
      second_is (order.cases a c) ∙ cc

  -- where two that count as one are told apart by a second test, what comes before b still comes before all that b comes before
  lex_onward : (a b c : A) {l m n : Bool} → (l ≡ true → m ≡ true → n ≡ true) → less a b || (like a b && l) ≡ true
      → less b c || (like b c && m) ≡ true → less a c || (like a c && n) ≡ true
  lex_onward a b c {l} {m} {n} rest h k = go (lex_parts (less a b) (like a b) l h) (lex_parts (less b c) (like b c) m k)
    where
      go : (less a b ≡ true) ⊎ ((like a b ≡ true) × (l ≡ true)) → (less b c ≡ true) ⊎ ((like b c ≡ true) × (m ≡ true))
          → less a c || (like a c && n) ≡ true
      go (inl p) (inl q) = rw (order.onward a b c p q)
      go (inl p) (inr q) = rw (← order.right b c a q.0, p)
      go (inr p) (inl q) = rw (order.left a b c p.0, q)
      go (inr p) (inr q) = rw (like_onward a b c p.0 q.0, rest p.1 q.1) (or-true (less a c))

-- where only equals count as one, the first two laws are enough
equal_order : {A : Type 0} {less like : A → A → Bool} → ((a b : A) → Exactly (less a b) (like a b) (less b a))
    → ((a b c : A) → less a b ≡ true → less b c ≡ true → less a c ≡ true) → ((a b : A) → like a b ≡ true → a ≡ b) → Order less like
equal_order cases onward equal = record {
  cases = cases;
  onward = onward;
  left = λ a b c h. rw (equal a b h);
  right = λ a b c h. rw (equal a b h);
}

-- ---- numbers

-- of two numbers, one is smaller or they are equal
number_cases : (x y : ℕ) → Exactly (ltb x y) (eqb x y) (ltb y x)
number_cases x y = go (dec_lt x y) (ℕ_discrete x y)
  where
    go : Dec (x < y) → Dec (x ≡ y) → Exactly (ltb x y) (eqb x y) (ltb y x)
    go (yes h) d = first (lt-ltb x y h) (ne_eqb x y (λ e. omega arith)) (le-ltb y x (omega arith))
    go (no h) (yes e) = second (le-ltb x y (omega arith)) (eq-eqb x y e) (le-ltb y x (omega arith))
    go (no h) (no e) = third (le-ltb x y (omega arith)) (ne_eqb x y e) (lt-ltb y x (omega arith))

-- numbers are in an order
number_order : Order ltb eqb
number_order =
    equal_order number_cases (λ a b c h k. lt-ltb a c (omega (arith, ltb-true a b h, ltb-true b c k))) eqb-true

-- ---- lists of numbers

-- of two lists, one comes before the other or they are the same
less_cases : (a b : List ℕ) → Exactly (less a b) (same a b) (less b a)
unfolding less same
less_cases [] [] = second refl refl refl
less_cases [] (y ∷ b) = first refl refl refl
less_cases (x ∷ a) [] = third refl refl refl
less_cases (x ∷ a) (y ∷ b) = rw (like_turned number_order y x) (lex_cases (number_cases x y) (less_cases a b))

-- a list that comes before b comes before all that b comes before
less_onward : (a b c : List ℕ) → less a b ≡ true → less b c ≡ true → less a c ≡ true
unfolding less
less_onward a b [] h k = k
less_onward a [] (z ∷ c) h k = cc
less_onward [] (y ∷ b) (z ∷ c) h k = refl
less_onward (x ∷ a) (y ∷ b) (z ∷ c) h k = lex_onward number_order x y z (less_onward a b c) h k

-- lists of numbers are in an order: the first place at which they differ decides
pub less_order : Order less same
less_order = equal_order less_cases less_onward same_equal

-- ---- entries

-- entries that are alike have equal identifiers and dates
alike_equal : (e f : Entry) → alike e f ≡ true → (e.identifier ≡ f.identifier) × (date_of e ≡ date_of f)
unfolding alike
alike_equal e f h =
    let p = (and-eq-true_iff (same e.identifier f.identifier) (same (date_of e) (date_of f))).0 h in
    (same_equal e.identifier f.identifier p.0, same_equal (date_of e) (date_of f) p.1)

-- of two entries, one comes before the other or they are alike
before_cases : (e f : Entry) → Exactly (before e f) (alike e f) (before f e)
unfolding before alike
before_cases e f =
    rw (like_turned less_order f.identifier e.identifier)
    (lex_cases (less_cases e.identifier f.identifier) (less_cases (date_of e) (date_of f)))

-- an entry that comes before f comes before all that f comes before
before_onward : (e f g : Entry) → before e f ≡ true → before f g ≡ true → before e g ≡ true
unfolding before
before_onward e f g =
    lex_onward less_order e.identifier f.identifier g.identifier (less_onward (date_of e) (date_of f) (date_of g))

-- entries that are alike come before the same entries
before_left : (e f g : Entry) → alike e f ≡ true → before e g ≡ before f g
unfolding before
before_left e f g h = let p = alike_equal e f h in rw (p.0, p.1)

-- and the same entries come before them
before_right : (e f g : Entry) → alike e f ≡ true → before g e ≡ before g f
unfolding before
before_right e f g h = let p = alike_equal e f h in rw (p.0, p.1)

-- entries are in an order: the identifier decides, then the date
pub before_order : Order before alike
before_order = record { cases = before_cases; onward = before_onward; left = before_left; right = before_right }
