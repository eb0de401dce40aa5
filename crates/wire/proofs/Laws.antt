-- Numbers and their bytes, the check, and rules of every number: what the proofs of this crate and of those above it cite. Assumes
-- nothing.
use Prim.Native.Nat.{ℕ, zero, suc, ◌+◌, ◌-◌, ◌*◌, ◌/◌, ◌%◌, ◌^◌, ◌≤◌, ◌<◌}
use mathlib.Core.Path.{◌≡◌, refl, ap, ◌∙◌}
use mathlib.Core.Bool.{Bool, true, false, cond}
use mathlib.Core.List.{List, [], ◌∷◌, ◌++◌}
use native.Mathlib.Nat.{zero-add, add-zero, suc-add, pow-suc, mul_assoc}
use native.Mathlib.Numerals.{add-one}
use native.Mathlib.Omega.{arith}
use native.Mathlib.Decide.{dec_lt}
use lib.Bits.{bit_xor, xor_lt}
use lib.Dec.{ltb}
use lib.ListN.{length, get_or, take, drop, length-append, drop_of_length-le, get_or-eq_default}
use lib.Seq.{drop-cons, get_or-append_seam, append_snoc, take_at, drop_at, drop-drop}
use Rattle.wire.specs.Numbers.{number_at, bytes_of}
use Rattle.wire.specs.Check.{crc_bit, crc_bits, crc_byte, crc_from, crc_of}
use Rattle.wire.specs.RuleWords.{each, all_in, unless}

-- ---- numbers

-- past the end a number of any width is 0
pub number_past : (w : ℕ) (s : List ℕ) (i : ℕ) → length s ≤ i → number_at w s i ≡ 0
unfolding number_at
number_past zero s i h = refl
number_past (suc w) s i h =
    let b = get_or-eq_default s 0 h in
    let r = number_past w s (i + 1) (omega arith) in
    omega arith

-- a number of v + w bytes is that of its first v bytes and, above it, that of the other w
pub number_parts : (v w : ℕ) (s : List ℕ) (i : ℕ) → number_at (v + w) s i ≡ number_at v s i + number_at w s (i + v) * 256 ^ v
unfolding number_at
number_parts zero w s i = simp (zero-add, add-zero) (omega arith)
number_parts (suc v) w s i =
    let e : i + 1 + v ≡ i + suc v = omega arith in
    let r = rw e at (number_parts v w s (i + 1)) in
    rw (suc-add, r, pow-suc, ← mul_assoc) (omega arith)

-- a number in w bytes has w of them
pub length_bytes_of : (w n : ℕ) → length (bytes_of w n) ≡ w
unfolding bytes_of
length_bytes_of zero n = refl
length_bytes_of (suc w) n = ap suc (length_bytes_of w (n / 256))

-- a number written in w bytes, whatever comes before and after it, is read back
pub written_read : (w n : ℕ) (p q : List ℕ) → n < 256 ^ w → number_at w (p ++ (bytes_of w n ++ q)) (length p) ≡ n
unfolding number_at bytes_of
written_read zero n p q h = omega arith
written_read (suc w) n p q h =
    let rest = bytes_of w (n / 256) ++ q in
    let e : length (p ++ (n % 256 ∷ [])) ≡ length p + 1 = length-append p (n % 256 ∷ []) in
    let small : n / 256 < 256 ^ w = (let k = rw (pow-suc 256 w) at h in omega arith) in
    let r = rw (append_snoc p (n % 256) rest, e) at (written_read w (n / 256) (p ++ (n % 256 ∷ [])) q small) in
    rw (get_or-append_seam p (n % 256) rest 0, r) (omega arith)

-- where p fills a list up to k, writing the next m elements from k on lets p stay
pub put_next : (p b l : List ℕ) (k m : ℕ) → length p ≡ k
    → take k (p ++ drop k l) ++ (b ++ drop (k + m) (p ++ drop k l)) ≡ p ++ (b ++ drop (k + m) l)
put_next p b l k m h =
    rw (take_at p (drop k l) k h, ← drop-drop m k (p ++ drop k l), drop_at p (drop k l) k h, drop-drop m k l)

-- ---- the check

-- the first of the bytes still to come
pub from_more : (c : ℕ) (s : List ℕ) (i : ℕ) → i < length s → crc_from c (drop i s) ≡ crc_from (crc_byte c (get_or s i 0)) (drop (i + 1) s)
unfolding crc_from
from_more c s i h = ap (crc_from c) (drop-cons s i 0 h) ∙ simp add-one

-- no byte is left
pub from_done : (c : ℕ) (s : List ℕ) (i : ℕ) → length s ≤ i → crc_from c (drop i s) ≡ c
unfolding crc_from
from_done c s i h = ap (crc_from c) (drop_of_length-le s h)

-- the register has 16 bits after a bit, after several, and after bytes
pub bit_small : (c : ℕ) → crc_bit c < 65536
unfolding crc_bit
bit_small c = go (ltb c 32768)
  where
    go : (b : Bool) → cond b (c % 32768 * 2) (bit_xor (c % 32768 * 2) 4129) < 65536
    go true = omega arith
    go false = xor_lt 16 (c % 32768 * 2) 4129 (omega arith) (omega arith)

pub bits_small : (k c : ℕ) → c < 65536 → crc_bits k c < 65536
unfolding crc_bits
bits_small zero c h = h
bits_small (suc k) c h = bits_small k (crc_bit c) (bit_small c)

-- a byte added to the register's upper half leaves it one
pub mixed_small : (c b : ℕ) → c < 65536 → b < 256 → bit_xor c (b * 256) < 65536
mixed_small c b h k = xor_lt 16 c (b * 256) h (omega arith)

from_small : (s : List ℕ) (c : ℕ) → c < 65536 → crc_from c s < 65536
unfolding crc_from crc_byte crc_bits
from_small [] c h = h
from_small (b ∷ s) c h =
    let x = bit_xor c (b * 256) in
    from_small s (crc_byte c b) (bits_small 7 (crc_bit x) (bit_small x))

-- the check of any bytes has room in two
pub crc_small : (s : List ℕ) → crc_of s < 65536
unfolding crc_of
crc_small s = from_small s 65535 (omega arith)

-- ---- rules

-- where no number is left, p holds of all
pub all_end : (p : ℕ → Bool) (i e : ℕ) → e ≤ i → all_in i e p ≡ true
unfolding all_in each
all_end p i e h = let n : e - i ≡ 0 = omega arith in rw n

-- p holds of the first number, so the others decide
pub all_step : (p : ℕ → Bool) (i e : ℕ) → i < e → p i ≡ true → all_in i e p ≡ all_in (i + 1) e p
unfolding all_in each
all_step p i e h t = let n : e - i ≡ suc (e - (i + 1)) = omega arith in rw (n, t)

-- p fails of the first number
pub all_miss : (p : ℕ → Bool) (i e : ℕ) → i < e → p i ≡ false → all_in i e p ≡ false
unfolding all_in each
all_miss p i e h f = let n : e - i ≡ suc (e - (i + 1)) = omega arith in rw (n, f)

-- where p holds of n numbers, it holds of each
each_at : (n i : ℕ) (p : ℕ → Bool) → each n i p ≡ true → (k : ℕ) → i ≤ k → k < i + n → p k ≡ true
unfolding each
each_at zero i p t k h g = absurd (omega arith)
each_at (suc n) i p t k h g = go (p i) refl (dec_lt i k) (λ r l. each_at n (i + 1) p r k l (omega arith))
  where
    go : (b : Bool) → p i ≡ b → Dec (i < k) → (each n (i + 1) p ≡ true → i + 1 ≤ k → p k ≡ true) → p k ≡ true
    go false e d later = let z = rw e at t in cc
    go true e (yes d) later = later (rw e at t) (omega arith)
    go true e (no d) later = let s : k ≡ i = omega arith in rw s e

-- where p holds of every number from i up to e, it holds of each
pub all_at : (p : ℕ → Bool) (i e : ℕ) → all_in i e p ≡ true → (k : ℕ) → i ≤ k → k < e → p k ≡ true
unfolding all_in
all_at p i e t k h g = each_at (e - i) i p t k h (omega arith)

-- a rule that holds of each number holds of all
each_all : (n i : ℕ) (p : ℕ → Bool) → ((k : ℕ) → i ≤ k → k < i + n → p k ≡ true) → each n i p ≡ true
unfolding each
each_all zero i p h = refl
each_all (suc n) i p h = rw (h i (omega arith) (omega arith)) (each_all n (i + 1) p (λ k a b. h k (omega arith) (omega arith)))

pub all_all : (p : ℕ → Bool) (i e : ℕ) → ((k : ℕ) → i ≤ k → k < e → p k ≡ true) → all_in i e p ≡ true
unfolding all_in
all_all p i e h = each_all (e - i) i p (λ k a b. h k a (omega arith))

-- where a chain of rules answers 0, its first rule is kept, and the others answer 0
pub kept_first : (kept : Bool) (number later : ℕ) → unless kept (suc number) later ≡ 0 → (kept ≡ true) × (later ≡ 0)
kept_first true number later h = (refl, h)
kept_first false number later h = absurd (omega arith)

-- ---- what cannot be

pub unlike : {A : Type 0} → ◌≡◌ {A = ℕ} 0 1 → A
unlike e = absurd (omega arith)
