-- Bytes compared as one number, the first the highest: the order is the same. Assumes nothing.
use Prim.Native.Nat.{ℕ, ◌+◌, ◌*◌, ◌^◌, ◌<◌, ◌≤◌}
use mathlib.Core.Path.{◌≡◌, refl, sym, ap, ap₂, ◌∙◌}
use mathlib.Core.Bool.{Bool, true, cond}
use mathlib.Core.List.{List, [], ◌∷◌, ◌++◌}
use native.Mathlib.Decide.{ℕ_discrete, dec_lt}
use native.Mathlib.Omega.{arith}
use lib.Arith.{digits_lt}
use lib.Dec.{ltb, eqb}
use lib.ListN.{length, take, drop, length-drop, take-append-drop}
use lib.Seq.{drop-drop, take_at, drop_at, length-take-le}
use borrow.Author.Tests.{ltb-true, lt-ltb, le-ltb, eq-eqb, ne_eqb}
use Rattle.wire.specs.RuleWords.{are_bytes}
use Rattle.wire.proofs.Every.{every_parts, every_cut}
use Rattle.bits.specs.Bits.{high_first, bits_in, number_after, number_of}
use Rattle.bits.proofs.Laws.{length_bits_in, bits_in_append, small_bits_in, number_append, number_after_lem, number_high, number_small}
use Rattle.fields.specs.Identifier.{same}
use Rattle.index.proofs.Less.{less_equal, less_differ, decided}

-- the number that bytes are, the first the highest
abbrev pub in_one : List ℕ → ℕ
in_one s = number_of (bits_in s)

-- what it is with one byte more in front
one_more : (x : ℕ) (s : List ℕ) → x < 256 → in_one (x ∷ s) ≡ x * 2 ^ (length s * 8) + in_one s
unfolding bits_in
one_more x s h =
    number_append 0 (high_first 8 x) (bits_in s) ∙ rw (number_high 8 x h, number_after_lem x (bits_in s), length_bits_in s)

-- and how large it can be
one_small : (s : List ℕ) → in_one s < 2 ^ (length s * 8)
one_small s = rw (length_bits_in s) at (number_small (bits_in s) (small_bits_in s))

-- numbers that are compared with the same added to both
eqb_both : (k n m : ℕ) → eqb (k + n) (k + m) ≡ eqb n m
eqb_both k n m = go (ℕ_discrete n m)
  where
    go : Dec (n ≡ m) → eqb (k + n) (k + m) ≡ eqb n m
    go (yes e) = rw (eq-eqb n m e, eq-eqb (k + n) (k + m) (omega arith))
    go (no e) = rw (ne_eqb n m e, ne_eqb (k + n) (k + m) (λ h. e (omega arith)))

ltb_both : (k n m : ℕ) → ltb (k + n) (k + m) ≡ ltb n m
ltb_both k n m = go (dec_lt n m)
  where
    go : Dec (n < m) → ltb (k + n) (k + m) ≡ ltb n m
    go (yes e) = rw (lt-ltb n m e, lt-ltb (k + n) (k + m) (omega arith))
    go (no e) = rw (le-ltb n m (omega arith), le-ltb (k + n) (k + m) (omega arith))

-- two parts of one length in front of what follows: as one number each they decide; where these are equal, what follows does
pub words_decide : (p q a b : List ℕ) (then : Bool) → are_bytes p ≡ true → are_bytes q ≡ true → length p ≡ length q
    → decided (p ++ a) (q ++ b) then ≡ cond (eqb (in_one p) (in_one q)) (decided a b then) (ltb (in_one p) (in_one q))
unfolding bits_in number_after same
words_decide [] [] a b then f g e = refl
words_decide [] (y ∷ q) a b then f g e = absurd (omega arith)
words_decide (x ∷ p) [] a b then f g e = absurd (omega arith)
words_decide (x ∷ p) (y ∷ q) a b then f g e =
    go (dec_lt x y) (dec_lt y x)
    (words_decide p q a b then (every_parts (λ b. ltb b 256) x p f).1 (every_parts (λ b. ltb b 256) y q g).1 (omega arith))
  where
    byte_x : x < 256
    byte_x = ltb-true x 256 (every_parts (λ b. ltb b 256) x p f).0

    byte_y : y < 256
    byte_y = ltb-true y 256 (every_parts (λ b. ltb b 256) y q g).0

    long : length p ≡ length q
    long = omega arith

    -- both numbers over the same power
    first : in_one (x ∷ p) ≡ x * 2 ^ (length q * 8) + in_one p
    first = rw (← long) (one_more x p byte_x)

    second : in_one (y ∷ q) ≡ y * 2 ^ (length q * 8) + in_one q
    second = one_more y q byte_y

    small_p : in_one p < 2 ^ (length q * 8)
    small_p = rw (← long) (one_small p)

    Goal : Type 0
    Goal = decided (x ∷ (p ++ a)) (y ∷ (q ++ b)) then
        ≡ cond (eqb (in_one (x ∷ p)) (in_one (y ∷ q))) (decided a b then) (ltb (in_one (x ∷ p)) (in_one (y ∷ q)))

    go : Dec (x < y) → Dec (y < x)
        → decided (p ++ a) (q ++ b) then ≡ cond (eqb (in_one p) (in_one q)) (decided a b then) (ltb (in_one p) (in_one q)) → Goal
    go (yes l) m later =
        let less_one : in_one (x ∷ p) < in_one (y ∷ q) = rw (first, second) (omega (arith, digits_lt l small_p)) in
        let differ : x ≡ y → ⊥ = λ h. absurd (omega arith) in
        rw (
          less_differ x y (p ++ a) (q ++ b) differ,
          ne_eqb x y differ,
          lt-ltb x y l,
          ne_eqb (in_one (x ∷ p)) (in_one (y ∷ q)) (λ h. absurd (omega (arith, less_one, h))),
          lt-ltb (in_one (x ∷ p)) (in_one (y ∷ q)) less_one,
        )
    go (no l) (yes m) later =
        let less_one : in_one (y ∷ q) < in_one (x ∷ p) = rw (first, second) (omega (arith, digits_lt m (one_small q))) in
        let differ : x ≡ y → ⊥ = λ h. absurd (omega arith) in
        rw (
          less_differ x y (p ++ a) (q ++ b) differ,
          ne_eqb x y differ,
          le-ltb x y (omega arith),
          ne_eqb (in_one (x ∷ p)) (in_one (y ∷ q)) (λ h. absurd (omega (arith, less_one, h))),
          le-ltb (in_one (x ∷ p)) (in_one (y ∷ q)) (omega (arith, less_one)),
        )
    go (no l) (no m) later =
        let equal : x ≡ y = omega arith in
        let high = y * 2 ^ (length q * 8) in
        let first' : in_one (x ∷ p) ≡ high + in_one p = first ∙ ap (λ (z : ℕ). z * 2 ^ (length q * 8) + in_one p) equal in
        rw (less_equal x y (p ++ a) (q ++ b) equal, eq-eqb x y equal, first', second, eqb_both high (in_one p) (in_one q), ltb_both high (in_one p) (in_one q)) later

-- the word at a place, by the bits of all bytes
abbrev pub word_at : List ℕ → ℕ → ℕ
word_at s i = number_of (take 64 (drop (i * 8) (bits_in s)))

module _ (s : List ℕ) (i : ℕ) (h : i + 8 ≤ length s) where
  -- it is that of eight bytes
  word_of : word_at s i ≡ in_one (take 8 (drop i s))
  word_of =
      let p = take 8 (drop i s) in
      let rest = drop 8 (drop i s) in
      let parts : bits_in s ≡ bits_in (take i s) ++ (bits_in p ++ bits_in rest) =
      ap bits_in (sym (take-append-drop i s)) ∙ bits_in_append (take i s) (drop i s)
      ∙ ap (λ (l : List ℕ). bits_in (take i s) ++ l) (ap bits_in (sym (take-append-drop 8 (drop i s))) ∙ bits_in_append p rest) in
      let before : length (bits_in (take i s)) ≡ i * 8 = length_bits_in (take i s) ∙ rw (length-take-le i s (omega arith)) in
      let eight : length (bits_in p) ≡ 64 = length_bits_in p ∙ rw (length-take-le 8 (drop i s) (omega (arith, length-drop i s))) in
      ap number_of
      (ap (λ (l : List ℕ). take 64 (drop (i * 8) l)) parts
      ∙ ap (take 64) (drop_at (bits_in (take i s)) (bits_in p ++ bits_in rest) (i * 8) before)
      ∙ take_at (bits_in p) (bits_in rest) 64 eight)

  word_length : length (take 8 (drop i s)) ≡ 8
  word_length = length-take-le 8 (drop i s) (omega (arith, length-drop i s))

  word_bytes : are_bytes s ≡ true → are_bytes (take 8 (drop i s)) ≡ true
  word_bytes e = (every_cut (λ b. ltb b 256) 8 (drop i s) (every_cut (λ b. ltb b 256) i s e).1).0

  -- what is left from the place on is these bytes and what is behind them
  word_rest : drop i s ≡ take 8 (drop i s) ++ drop (i + 8) s
  word_rest = sym (take-append-drop 8 (drop i s)) ∙ ap (λ (l : List ℕ). take 8 (drop i s) ++ l) (drop-drop 8 i s)

-- from a place on, where both have eight bytes more: words that differ decide, and equal ones leave it to what is behind them
module _ (a b : List ℕ) (i : ℕ) (then : Bool) (f : are_bytes a ≡ true) (g : are_bytes b ≡ true) (h : i + 8 ≤ length a) (k : i + 8 ≤ length b) where
  words_turn : decided (drop i a) (drop i b) then
      ≡ cond (eqb (word_at a i) (word_at b i)) (decided (drop (i + 8) a) (drop (i + 8) b) then) (ltb (word_at a i) (word_at b i))
  words_turn =
      let p = take 8 (drop i a) in
      let q = take 8 (drop i b) in
      ap₂ (λ (x y : List ℕ). decided x y then) (word_rest a i h) (word_rest b i k)
      ∙ words_decide p q (drop (i + 8) a) (drop (i + 8) b) then (word_bytes a i h f) (word_bytes b i k g) (word_length a i h ∙ sym (word_length b i k))
      ∙ rw (word_of a i h, word_of b i k)

  pub words_equal : word_at a i ≡ word_at b i → decided (drop i a) (drop i b) then ≡ decided (drop (i + 8) a) (drop (i + 8) b) then
  words_equal e = words_turn ∙ rw (eq-eqb (word_at a i) (word_at b i) e)

  pub words_differ : (word_at a i ≡ word_at b i → ⊥) → decided (drop i a) (drop i b) then ≡ ltb (word_at a i) (word_at b i)
  words_differ e = words_turn ∙ rw (ne_eqb (word_at a i) (word_at b i) e)
