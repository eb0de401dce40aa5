-- Bytes read into a number of 64 bits, the window that it is, and what the reader of codes finds in a window. Assumes nothing.
use Prim.Native.Nat.{ℕ, zero, suc, ◌+◌, ◌-◌, ◌*◌, ◌/◌, ◌%◌, ◌^◌, ◌≤◌, ◌<◌}
use mathlib.Core.Path.{◌≡◌, refl, sym, ap, ap₂, ◌∙◌}
use mathlib.Core.Bool.{Bool, true, false}
use mathlib.Core.List.{List, [], ◌∷◌, ◌++◌, append-nil}
use native.Mathlib.Numerals.{add-one}
use native.Mathlib.Omega.{arith}
use borrow.Author.Tests.{eq-eqb, ne_eqb}
use Rattle.std.proofs.lemmas.List.{take_more}
use lib.Dec.{eqb}
use lib.ListN.{length, get_or, take, drop, replicate, length-append, length-take, length-drop, take-append-drop}
use lib.Pow.{high, low, field, shr-shr, shl-shr}
use lib.Seq.{drop-cons, drop-drop, drop-nil, drop-append-add, drop-append-le}
use lib.Seq.{take-append-add, take-append-le, take-append_seam, length-take-le, take_all}
use Rattle.bits.specs.Bits.{high_first, low_first, bits_in, number_after, number_of, begins}
use Rattle.bits.specs.InnerWindow.{Window, turned}
use Rattle.bits.proofs.Laws.{length_high_first, length_low_first, length_bits_in, bits_in_append, Small, small_take, small_drop}
use Rattle.bits.proofs.Laws.{small_low_first, small_bits_in, number_append, number_after_lem, number_small, number_one}
use Rattle.bits.proofs.Laws.{number_high, number_split, begins_append, begins_split}

-- the bits from a byte on are those of the bytes from there on
bits_in_drop : (j : ℕ) (s : List ℕ) → drop (j * 8) (bits_in s) ≡ bits_in (drop j s)
unfolding bits_in high_first
bits_in_drop zero s = refl
bits_in_drop (suc j) [] = drop-nil (suc j * 8)
bits_in_drop (suc j) (b ∷ s) =
    let e : suc j * 8 ≡ 8 + j * 8 = omega arith in
    rw e (drop-append-add (high_first 8 b) (bits_in s) (j * 8) ∙ bits_in_drop j s)

-- the byte b at j is read after the number a, and the bits from the next byte j' on are left: n of m
pub byte_more : (s : List ℕ) (j j' a b m n : ℕ) → j' ≡ j + 1 → m ≡ 8 + n → j < length s → b ≡ get_or s j 0 → b < 256
    → number_after a (take m (drop (j * 8) (bits_in s))) ≡ number_after (a * 256 + b) (take n (drop (j' * 8) (bits_in s)))
unfolding bits_in high_first
byte_more s j j' a b m n ej em h eb hb =
    let rest = bits_in (drop (suc j) s) in
    let own : number_after a (high_first 8 b) ≡ a * 256 + b = rw (number_after_lem a (high_first 8 b), number_high 8 b hb) in
    rw (ej, em, add-one j, bits_in_drop j s, bits_in_drop (suc j) s, drop-cons s j 0 h, ← eb)
    (ap (number_after a) (take-append-add (high_first 8 b) rest n)
    ∙ number_append a (high_first 8 b) (take n rest)
    ∙ ap (λ (x : ℕ). number_after x (take n rest)) own)

-- bits that are 0 are the number 0
zeros_none : (n m : ℕ) → number_of (take m (replicate n 0)) ≡ 0
unfolding number_after
zeros_none n zero = refl
zeros_none zero (suc m) = refl
zeros_none (suc n) (suc m) = zeros_none n m

-- one byte more is read behind the first k
pub byte_behind : (s : List ℕ) (k b : ℕ) → k < length s → b ≡ get_or s k 0 → b < 256
    → number_of (bits_in (take (k + 1) s)) ≡ number_of (bits_in (take k s)) * 256 + b
unfolding bits_in
byte_behind s k b h e g =
    let l = bits_in (take k s) in
    let one : bits_in (b ∷ []) ≡ high_first 8 b = append-nil (high_first 8 b) in
    rw (
      take_more s k 0 h,
      ← e,
      bits_in_append (take k s) (b ∷ []),
      one,
      number_append 0 l (high_first 8 b),
      number_after_lem (number_of l) (high_first 8 b),
      number_high 8 b g,
      length_high_first 8 b,
    ) refl

-- the first k bytes are a number of 8 bits for each
pub bytes_small : (s : List ℕ) (k : ℕ) → k ≤ length s → number_of (bits_in (take k s)) < 2 ^ (k * 8)
bytes_small s k h =
    let long : length (bits_in (take k s)) ≡ k * 8 = simp length_bits_in (rw (length-take-le k s h)) in
    rw long at (number_small (bits_in (take k s)) (small_bits_in (take k s)))

-- the last bytes, from i on, and the zeros behind them
module _ (s : List ℕ) (i : ℕ) (rest : List ℕ) (there : i ≤ length s) (e : rest ≡ take (length s - i) (drop i s)) (few : length rest ≤ 8) where
  -- the zeros move the number of the bytes up to that of 64 bits
  pub last_bytes : number_of (take 64 (drop (i * 8) (bits_in (s ++ replicate 8 0)))) ≡ number_of (bits_in rest) * 2 ^ ((8 - length rest) * 8)
  unfolding bits_in high_first
  last_bytes =
      let zeros : List ℕ = replicate 8 0 in
      let own = bits_in rest in
      let m = (8 - length rest) * 8 in
      let same : drop i s ≡ rest = sym (e ∙ take_all (length s - i) (drop i s) (simp length-drop (omega arith))) in
      let sum : 64 ≡ length own + m = omega (arith, length_bits_in rest) in
      let bits : List ℕ = replicate 64 0 in
      let long : length (take m bits) ≡ m = length-take-le m bits (omega arith) in
      rw (
        bits_in_drop i (s ++ zeros),
        drop-append-le i s zeros there,
        same,
        bits_in_append rest zeros,
        sum,
        take-append-add own (bits_in zeros) m,
        number_append 0 own (take m bits),
        number_after_lem (number_of own) (take m bits),
        long,
        zeros_none 64 m,
      )
      (omega arith)

  -- which has room in 64 bits
  pub last_small : number_of (bits_in rest) * 2 ^ ((8 - length rest) * 8) < 2 ^ 64
  last_small =
      let from = drop (i * 8) (bits_in (s ++ replicate 8 0)) in
      let short = length-take-le (length s - i) (drop i s) (simp length-drop (omega arith)) in
      let many : 64 ≤ length from = simp (length-drop, length_bits_in, length-append) (omega (arith, ap length e, short)) in
      rw (← last_bytes)
      (rw (length-take-le 64 from many) at (number_small (take 64 from) (small_take 64 from (small_drop (i * 8) _ (small_bits_in (s ++ replicate 8 0))))))

  -- and is 0 where no byte is there
  pub last_none : length rest ≡ 0 → number_of (take 64 (drop (i * 8) (bits_in (s ++ replicate 8 0)))) ≡ 0
  unfolding bits_in number_after
  last_none h = last_bytes ∙ go rest h
    where
      go : (l : List ℕ) → length l ≡ 0 → number_of (bits_in l) * 2 ^ ((8 - length l) * 8) ≡ 0
      go [] g = omega arith
      go (b ∷ l) g = absurd (omega arith)

-- bytes behind the last leave the bits before them as they are
pub bits_before : (s t : List ℕ) (at k : ℕ) → at + k ≤ length (bits_in s)
    → take k (drop at (bits_in (s ++ t))) ≡ take k (drop at (bits_in s))
bits_before s t at k h =
    let l : k ≤ length (drop at (bits_in s)) = simp length-drop (omega arith) in
    rw (bits_in_append s t, drop-append-le at (bits_in s) (bits_in t) (omega arith), take-append-le k (drop at (bits_in s)) (bits_in t) l)

-- of the first k + m bits the first k are the quotient by 2 ^ m, and the m that follow the remainder
module _ (l : List ℕ) (k m : ℕ) (small : Small l) (h : k + m ≤ length l) where
  rest_small : number_of (take m (drop k l)) < 2 ^ m
  rest_small =
      let e : length (take m (drop k l)) ≡ m = simp (length-take, length-drop) (omega arith) in
      rw e at (number_small (take m (drop k l)) (small_take m (drop k l) (small_drop k l small)))

  upper : number_of (take (k + m) l) / 2 ^ m ≡ number_of (take k l)
  upper = rw (number_split l k m h) (high (number_of (take k l)) m rest_small)

  lower : number_of (take (k + m) l) % 2 ^ m ≡ number_of (take m (drop k l))
  lower = rw (number_split l k m h) (low (number_of (take k l)) m rest_small)

-- where w has p + q bits above t others, w moved up by p has the last q of them as its highest
moved : (l : List ℕ) (w p q t : ℕ) → Small l → p + q ≤ length l → p + q + t ≡ 64 → w / 2 ^ t ≡ number_of (take (p + q) l)
    → w * 2 ^ p % 2 ^ 64 / 2 ^ (64 - q) ≡ number_of (take q (drop p l))
moved l w p q t small h sum seen =
    let whole : 64 ≡ q + (p + t) = omega arith in
    let below : 64 - q ≡ p + t = omega arith in
    ap₂ (λ (m n : ℕ). w * 2 ^ p % 2 ^ m / 2 ^ n) whole below
    ∙ field (w * 2 ^ p) q (p + t)
    ∙ rw (← shr-shr (w * 2 ^ p) p t, shl-shr w p, seen) (lower l p q small h)

-- the 64 bits from a byte on, moved up to a bit of that byte, have the next bits as their highest
pub window_of : (s : List ℕ) (at w k : ℕ) → at / 8 + 8 ≤ length s → w ≡ number_of (take 64 (drop (at / 8 * 8) (bits_in s))) → k ≤ 57
    → w * 2 ^ (at % 8) % 2 ^ 64 / 2 ^ (64 - k) ≡ number_of (take k (drop at (bits_in s)))
window_of s at w k h e hk =
    let l = drop (at / 8 * 8) (bits_in s) in
    let small = small_drop (at / 8 * 8) (bits_in s) (small_bits_in s) in
    let o = at % 8 in
    let t = 64 - (o + k) in
    let there : 64 ≤ length l = simp (length-drop, length_bits_in) (omega arith) in
    let sum : o + k + t ≡ 64 = omega arith in
    let place : at / 8 * 8 + o ≡ at = omega arith in
    let seen : w / 2 ^ t ≡ number_of (take (o + k) l) =
    rw e (ap (λ (n : ℕ). number_of (take n l) / 2 ^ t) (sym sum) ∙ upper l (o + k) t small (omega arith)) in
    moved l w o k t small (omega arith) sum seen ∙ rw (drop-drop o (at / 8 * 8) (bits_in s), place)

-- the q bits after the first p of a window
pub window_after : (bs : List ℕ) (w p q : ℕ) → Window bs w → Small bs → p + q ≤ 57 → p + q ≤ length bs
    → w * 2 ^ p % 2 ^ 64 / 2 ^ (64 - q) ≡ number_of (take q (drop p bs))
window_after bs w p q seen small h l = moved bs w p q (64 - (p + q)) small l (omega arith) (seen (p + q) h l)

-- as many bits are the same number where the ones begin the others, and nowhere else
begins_number : (p l : List ℕ) → Small p → Small l → length p ≤ length l → eqb (number_of (take (length p) l)) (number_of p) ≡ begins p l
begins_number p l sp sl h = go (begins p l) refl
  where
    differ : begins p l ≡ false → number_of (take (length p) l) ≡ number_of p → ⊥
    differ e n =
        let first = number_one (take (length p) l) p (small_take (length p) l sl) sp (length-take-le (length p) l h) n in
        let t = begins_append p (drop (length p) l) in
        let z : ◌≡◌ {A = ℕ} 0 1 = cc (take-append-drop (length p) l) in
        omega arith

    go : (b : Bool) → begins p l ≡ b → eqb (number_of (take (length p) l)) (number_of p) ≡ b
    go true e =
        let first = ap (take (length p)) (begins_split p l e) ∙ take-append_seam p (drop (length p) l) in
        eq-eqb (number_of (take (length p) l)) (number_of p) (ap number_of first)
    go false e = ne_eqb (number_of (take (length p) l)) (number_of p) (differ e)

-- the first p bits of a window are a turned code where the code's bits begin the stream, and nowhere else
pub window_begins : (bs : List ℕ) (w p c : ℕ) → Window bs w → Small bs → p ≤ 57 → p ≤ length bs
    → eqb (w / 2 ^ (64 - p)) (turned p c) ≡ begins (low_first p c) bs
unfolding turned
window_begins bs w p c seen small h l =
    let e = length_low_first p c in
    rw (seen p h l) (rw e at (begins_number (low_first p c) bs (small_low_first p c) small (omega arith)))

-- eight bytes are read one after another: each comes after the number of those before it
pub eight_bytes : (s : List ℕ) (i : ℕ) → ((j : ℕ) → get_or s j 0 < 256) → i + 8 ≤ length s
    → number_of (take 64 (drop (i * 8) (bits_in s)))
    ≡ ((((((get_or s i 0 * 256 + get_or s (i + 1) 0) * 256 + get_or s (i + 2) 0) * 256 + get_or s (i + 3) 0) * 256
    + get_or s (i + 4) 0) * 256 + get_or s (i + 5) 0) * 256 + get_or s (i + 6) 0) * 256 + get_or s (i + 7) 0
unfolding number_after
eight_bytes s i b h =
    next i (i + 1) 0 56 (omega arith) (omega arith)
    ∙ next (i + 1) (i + 2) _ 48 (omega arith) (omega arith)
    ∙ next (i + 2) (i + 3) _ 40 (omega arith) (omega arith)
    ∙ next (i + 3) (i + 4) _ 32 (omega arith) (omega arith)
    ∙ next (i + 4) (i + 5) _ 24 (omega arith) (omega arith)
    ∙ next (i + 5) (i + 6) _ 16 (omega arith) (omega arith)
    ∙ next (i + 6) (i + 7) _ 8 (omega arith) (omega arith)
    ∙ next (i + 7) (i + 8) _ 0 (omega arith) (omega arith)
    ∙ omega arith
  where
    next : (j j' a n : ℕ) → j' ≡ j + 1 → j < length s
        → number_after a (take (8 + n) (drop (j * 8) (bits_in s))) ≡ number_after (a * 256 + get_or s j 0) (take n (drop (j' * 8) (bits_in s)))
    next j j' a n e l = byte_more s j j' a (get_or s j 0) (8 + n) n e refl l refl (b j)
