-- Bits, the numbers that they are, and what begins a list of them. Assumes nothing.
use Prim.Native.Nat.{ℕ, zero, suc, ◌+◌, ◌*◌, ◌/◌, ◌%◌, ◌^◌, ◌≤◌, ◌<◌}
use mathlib.Core.Path.{◌≡◌, refl, sym, ap, ap₂, ◌∙◌}
use mathlib.Core.Bool.{Bool, true, false, ◌&&◌, and-false}
use mathlib.Core.List.{List, [], ◌∷◌, ◌++◌, append_assoc}
use native.Mathlib.Nat.{zero-add, add-mul, mul_assoc, mul_comm, pow-suc, pow-succ', pow-le-pow_right, mod-eq_of_lt, lt_of_lt_of_le}
use native.Mathlib.Numerals.{add-one, one-add}
use native.Mathlib.Omega.{arith}
use borrow.Author.Tests.{eq-eqb, eqb-true}
use lib.Arith.{digits_lt}
use lib.Dec.{eqb}
use lib.ListN.{length, get_or, take, drop, length-take, length-drop}
use lib.Pow.{high, low, mod-pow-add}
use lib.Seq.{get_or-drop, take-add}
use Rattle.bits.specs.Bits.{high_first, low_first, bits_in, number_after, number_of, begins}

-- w bits of a number, the highest first, are w
pub length_high_first : (w n : ℕ) → length (high_first w n) ≡ w
unfolding high_first
length_high_first zero n = refl
length_high_first (suc w) n = ap suc (length_high_first w n)

-- w bits of a number, the lowest first, are w
pub length_low_first : (w n : ℕ) → length (low_first w n) ≡ w
unfolding low_first
length_low_first zero n = refl
length_low_first (suc w) n = ap suc (length_low_first w (n / 2))

-- each byte has eight bits
pub length_bits_in : (s : List ℕ) → length (bits_in s) ≡ length s * 8
unfolding bits_in high_first
length_bits_in [] = refl
length_bits_in (b ∷ s) = let h = length_bits_in s in omega arith

-- the bits of bytes one after another
pub bits_in_append : (s t : List ℕ) → bits_in (s ++ t) ≡ bits_in s ++ bits_in t
unfolding bits_in
bits_in_append [] t = refl
bits_in_append (b ∷ s) t = rw (bits_in_append s t, append_assoc (high_first 8 b) (bits_in s) (bits_in t))

-- each bit of a list is 0 or 1
abbrev pub Small : List ℕ → Type 0
Small l = (i : ℕ) → get_or l i 0 < 2

-- bits behind bits are 0 or 1
pub small_append : (k l : List ℕ) → Small k → Small l → Small (k ++ l)
small_append [] l hk hl i = hl i
small_append (b ∷ k) l hk hl zero = hk 0
small_append (b ∷ k) l hk hl (suc i) = small_append k l (λ j. hk (suc j)) hl i

-- the first n of them are 0 or 1
pub small_take : (n : ℕ) (l : List ℕ) → Small l → Small (take n l)
small_take zero l h i = omega arith
small_take (suc n) [] h i = omega arith
small_take (suc n) (b ∷ l) h zero = h 0
small_take (suc n) (b ∷ l) h (suc i) = small_take n l (λ j. h (suc j)) i

-- those after the first n are 0 or 1
pub small_drop : (n : ℕ) (l : List ℕ) → Small l → Small (drop n l)
small_drop n l h i = rw (get_or-drop n l i 0) (h (n + i))

-- so are those behind others
pub small_behind : (k l : List ℕ) → Small (k ++ l) → Small l
small_behind [] l h i = h i
small_behind (b ∷ k) l h i = small_behind k l (λ j. h (suc j)) i

-- the bits of a number, the highest first, are 0 or 1
pub small_high_first : (w n : ℕ) → Small (high_first w n)
unfolding high_first
small_high_first zero n i = omega arith
small_high_first (suc w) n zero = omega arith
small_high_first (suc w) n (suc i) = small_high_first w n i

-- the bits of a number, the lowest first, are 0 or 1
pub small_low_first : (w n : ℕ) → Small (low_first w n)
unfolding low_first
small_low_first zero n i = omega arith
small_low_first (suc w) n zero = omega arith
small_low_first (suc w) n (suc i) = small_low_first w (n / 2) i

-- the bits of bytes are 0 or 1
pub small_bits_in : (s : List ℕ) → Small (bits_in s)
unfolding bits_in
small_bits_in [] i = omega arith
small_bits_in (b ∷ s) i = small_append (high_first 8 b) (bits_in s) (small_high_first 8 b) (small_bits_in s) i

-- bits after bits: the number of the first is carried on
pub number_append : (a : ℕ) (k l : List ℕ) → number_after a (k ++ l) ≡ number_after (number_after a k) l
unfolding number_after
number_append a [] l = refl
number_append a (b ∷ k) l = number_append (a * 2 + b) k l

-- the number that bits are read on after is moved up by as many bits, and theirs is added
pub number_after_lem : (a : ℕ) (l : List ℕ) → number_after a l ≡ a * 2 ^ length l + number_of l
unfolding number_after
number_after_lem a [] = omega arith
number_after_lem a (b ∷ l) =
    let p = 2 ^ length l in
    let whole = number_after_lem (a * 2 + b) l in
    let own = number_after_lem (0 + b) l in
    rw (whole, own, pow-suc 2 (length l), zero-add b, add-mul (a * 2) b p, mul_assoc a 2 p, mul_comm 2 p) (omega arith)

-- the first bit is the highest
number_cons : (b : ℕ) (l : List ℕ) → number_of (b ∷ l) ≡ b * 2 ^ length l + number_of l
unfolding number_after
number_cons b l = rw (zero-add b) (number_after_lem b l)

-- n bits are a number below 2 ^ n
pub number_small : (l : List ℕ) → Small l → number_of l < 2 ^ length l
unfolding number_after
number_small [] h = omega arith
number_small (b ∷ l) h =
    rw (number_cons b l, pow-succ' 2 (length l)) (digits_lt (h 0) (number_small l (λ i. h (suc i))))

-- as many bits that are the same number are the same bits
pub number_one : (k l : List ℕ) → Small k → Small l → length k ≡ length l → number_of k ≡ number_of l → k ≡ l
number_one [] [] hk hl e n = refl
number_one [] (b ∷ l) hk hl e n = absurd (omega arith)
number_one (a ∷ k) [] hk hl e n = absurd (omega arith)
number_one (a ∷ k) (b ∷ l) hk hl e n =
    let m : length k ≡ length l = omega arith in
    let p = 2 ^ length l in
    let sk : number_of k < p = rw m at (number_small k (λ i. hk (suc i))) in
    let sl = number_small l (λ i. hl (suc i)) in
    let both : a * p + number_of k ≡ b * p + number_of l = rw (number_cons a k, number_cons b l, m) at n in
    let first : a ≡ b = sym (high a (length l) sk) ∙ ap (λ (x : ℕ). x / p) both ∙ high b (length l) sl in
    let rest : number_of k ≡ number_of l = sym (low a (length l) sk) ∙ ap (λ (x : ℕ). x % p) both ∙ low b (length l) sl in
    ap₂ ◌∷◌ first (number_one k l (λ i. hk (suc i)) (λ i. hl (suc i)) m rest)

-- the w lowest bits of a number are its remainder
number_mod : (w n : ℕ) → number_of (high_first w n) ≡ n % 2 ^ w
unfolding high_first number_after
number_mod zero n = omega arith
number_mod (suc w) n =
    rw (number_cons (n / 2 ^ w % 2) (high_first w n), length_high_first w n, number_mod w n, ← one-add w, mod-pow-add n 1 w)

-- a number of w bits is the number that its bits are
pub number_high : (w n : ℕ) → n < 2 ^ w → number_of (high_first w n) ≡ n
number_high w n h = number_mod w n ∙ mod-eq_of_lt h

-- w bits are those of their number
pub own_bits : (l : List ℕ) (w : ℕ) → Small l → length l ≡ w → high_first w (number_of l) ≡ l
own_bits l w h e =
    let x = number_of l in
    let small : x < 2 ^ w = rw e at (number_small l h) in
    number_one (high_first w x) l (small_high_first w x) h (length_high_first w x ∙ sym e) (number_high w x small)

-- the first k + m bits are the first k above the m that follow
pub number_split : (l : List ℕ) (k m : ℕ) → k + m ≤ length l
    → number_of (take (k + m) l) ≡ number_of (take k l) * 2 ^ m + number_of (take m (drop k l))
number_split l k m h =
    let e : length (take m (drop k l)) ≡ m = simp (length-take, length-drop) (omega arith) in
    rw (take-add k m l, number_append 0 (take k l) (take m (drop k l)), number_after_lem (number_of (take k l)) (take m (drop k l)), e)

-- a number of k digits to the base b, and one digit behind it, has k + 1 digits
pub digits_more : (b k : ℕ) {w d : ℕ} → w < b ^ k → d < b → w * b + d < b ^ (k + 1)
digits_more b k h g = rw (add-one k, pow-suc b k) (digits_lt h g)

-- a number of k digits to the base b has room in m
pub digits_room : (b k m : ℕ) {w : ℕ} → 0 < b → k ≤ m → w < b ^ k → w < b ^ m
digits_room b k m h g l = lt_of_lt_of_le l (pow-le-pow_right h g)

-- a list begins itself with more behind
pub begins_append : (p l : List ℕ) → begins p (p ++ l) ≡ true
unfolding begins
begins_append [] l = refl
begins_append (a ∷ p) l = rw (eq-eqb a a refl) (begins_append p l)

-- what begins a list is its first part
pub begins_split : (p l : List ℕ) → begins p l ≡ true → l ≡ p ++ drop (length p) l
unfolding begins
begins_split [] l h = refl
begins_split (a ∷ p) [] h = cc
begins_split (a ∷ p) (b ∷ l) h = go (eqb a b) refl h (begins_split p l)
  where
    go : (e : Bool) → eqb a b ≡ e → e && begins p l ≡ true → (begins p l ≡ true → l ≡ p ++ drop (length p) l)
        → b ∷ l ≡ a ∷ (p ++ drop (length p) l)
    go true e g rest = ap₂ ◌∷◌ (sym (eqb-true a b e)) (rest g)
    go false e g rest = cc

-- p bits do not begin fewer
pub begins_short : (p c : ℕ) (l : List ℕ) → length l < p → begins (low_first p c) l ≡ false
unfolding begins low_first
begins_short zero c l h = absurd (omega arith)
begins_short (suc p) c [] h = refl
begins_short (suc p) c (b ∷ l) h = rw (begins_short p (c / 2) l (omega arith)) (and-false (eqb (c % 2) b))
