-- What a word, eight bytes at once, does to the check's register. Assumes nothing.
use mathlib.Core.Bool.{true}
use mathlib.Core.Path.{◌≡◌, refl, sym, ap, ap₂, ◌∙◌}
use mathlib.Core.List.{List, [], ◌∷◌, ◌++◌}
use Prim.Native.Nat.{ℕ, zero, suc, ◌+◌, ◌*◌, ◌/◌, ◌%◌, ◌^◌, ◌<◌, ◌≤◌}
use native.Mathlib.Nat.{mod-eq_of_lt}
use native.Mathlib.Omega.{arith}
use lib.ListN.{length, get_or, take, drop, take-append-drop, drop_of_length-le}
use lib.Bits.{bit_xor, xor_zero_l, xor_zero_r, xor_comm, xor_shr, xor_mod}
use Rattle.bits.specs.Bits.{bits_in, number_of}
use Rattle.bits.proofs.Windows.{eight_bytes as as_bits}
use Rattle.wire.specs.RuleWords.{each, all_in}
use Rattle.wire.specs.Check.{crc_bit, crc_bits, crc_byte, crc_from}
use Rattle.wire.specs.InnerCheck.{fed, quotient}
use Rattle.wire.proofs.Laws.{bits_small, mixed_small, from_more}
use Rattle.wire.proofs.Xor.{xor_up, xor_swap, Linear, self, ◌⊕◌, down, low, up, same_at, agree}
use Rattle.wire.proofs.Powers.{bits_linear, bits_after, onward}

-- ---- bytes of a word

pub fed_small : (n c w : ℕ) → c < 65536 → fed n c w < 65536
unfolding fed crc_byte
fed_small zero c w h = h
fed_small (suc n) c w h = bits_small 8 (bit_xor (fed n c (w / 256)) (w % 256 * 256)) (mixed_small (fed n c (w / 256)) (w % 256) (fed_small n c (w / 256) h) (omega arith))

byte_linear : (c d x y : ℕ) → c < 65536 → d < 65536 → x < 256 → y < 256 → crc_byte (bit_xor c d) (bit_xor x y) ≡ bit_xor (crc_byte c x) (crc_byte d y)
unfolding crc_byte
byte_linear c d x y hc hd hx hy =
    ap (λ (z : ℕ). crc_bits 8 (bit_xor (bit_xor c d) z)) (xor_up 8 x y)
    ∙ ap (crc_bits 8) (xor_swap c d (x * 256) (y * 256))
    ∙ bits_linear 8 (bit_xor c (x * 256)) (bit_xor d (y * 256)) (mixed_small c x hc hx) (mixed_small d y hd hy)

-- the register is linear in itself and the word
fed_linear : (n c d w v : ℕ) → c < 65536 → d < 65536 → fed n (bit_xor c d) (bit_xor w v) ≡ bit_xor (fed n c w) (fed n d v)
unfolding fed
fed_linear zero c d w v h k = refl
fed_linear (suc n) c d w v h k =
    ap₂ (λ (x y : ℕ). crc_byte (fed n (bit_xor c d) x) y) (xor_shr w v 8) (xor_mod w v 8)
    ∙ ap (λ (x : ℕ). crc_byte x (bit_xor (w % 256) (v % 256))) (fed_linear n c d (w / 256) (v / 256) h k)
    ∙ byte_linear (fed n c (w / 256)) (fed n d (v / 256)) (w % 256) (v % 256) (fed_small n c (w / 256) h) (fed_small n d (v / 256) k) (omega arith) (omega arith)

-- bytes 0 only move it
fed_zeros : (n c : ℕ) → fed n c 0 ≡ crc_bits (n * 8) c
unfolding fed crc_byte crc_bits
fed_zeros zero c = refl
fed_zeros (suc n) c =
    let e : n * 8 + 8 ≡ suc n * 8 = omega arith in
    ap (crc_bits 8) (xor_zero_r (fed n c 0) ∙ fed_zeros n c) ∙ sym (bits_after (n * 8) 8 c) ∙ ap (λ (k : ℕ). crc_bits k c) e

-- what is added to the register, or to the word, is added to the answer
pub fed_from : (c d w : ℕ) → c < 65536 → d < 65536 → fed 8 (bit_xor c d) w ≡ bit_xor (fed 8 c w) (crc_bits 64 d)
fed_from c d w h k =
    ap (fed 8 (bit_xor c d)) (sym (xor_zero_r w))
    ∙ fed_linear 8 c d w 0 h k
    ∙ ap (bit_xor (fed 8 c w)) (fed_zeros 8 d)

pub fed_with : (c w v : ℕ) → c < 65536 → fed 8 c (bit_xor w v) ≡ bit_xor (fed 8 c w) (fed 8 0 v)
fed_with c w v h = ap (λ (x : ℕ). fed 8 x (bit_xor w v)) (sym (xor_zero_r c)) ∙ fed_linear 8 c 0 w v h (omega arith)

-- ---- two words as one, and a word's register

leaves : {f : ℕ → ℕ} → Linear f → Linear (λ x. fed 8 0 (f x))
leaves {f} p = record { is = λ a b. ap (fed 8 0) (p.is a b) ∙ fed_linear 8 0 0 (f a) (f b) (omega arith) (omega arith) }

quotient_linear : Linear quotient
unfolding quotient
quotient_linear = let t = self ⊕ down 16 self in t ⊕ down 32 t ⊕ down 44 self

-- a word that leaves the register as w with eight bytes 0 behind it does
unfoldable pub folded : ℕ → ℕ
folded w = bit_xor (bit_xor (quotient w) (quotient w * 2 ^ 20 % 2 ^ 64)) (quotient w * 2 ^ 48 % 2 ^ 64)

folded_linear : Linear folded
unfolding folded
folded_linear = quotient_linear ⊕ low 64 (up 20 quotient_linear) ⊕ low 64 (up 48 quotient_linear)

folded_passes : all_in 0 64 (same_at (leaves folded_linear) (onward 64 (leaves self))) ≡ true
unfolding all_in each same_at fed folded quotient crc_byte crc_bits crc_bit
folded_passes = refl

-- the register after w and v is that after one word
pub next_word : (w v : ℕ) → w < 2 ^ 64 → fed 8 0 (bit_xor (folded w) v) ≡ fed 8 (fed 8 0 w) v
next_word w v h =
    let r : fed 8 0 w < 65536 = fed_small 8 0 w (omega arith) in
    fed_linear 8 0 0 (folded w) v (omega arith) (omega arith)
    ∙ ap (λ (x : ℕ). bit_xor x (fed 8 0 v)) (agree (leaves folded_linear) (onward 64 (leaves self)) 64 folded_passes w h ∙ ap (crc_bits 64) (mod-eq_of_lt r))
    ∙ xor_comm (crc_bits 64 (fed 8 0 w)) (fed 8 0 v)
    ∙ sym (fed_from 0 (fed 8 0 w) v (omega arith) r)
    ∙ ap (λ (x : ℕ). fed 8 x v) (xor_zero_l (fed 8 0 w))

-- what the polynomial leaves of a word and 16 bits 0: the quotient by the 4th power, times the 2nd and the 1st, is that by the polynomial itself,
-- and the remainder is the lowest 16 digits of its product with the polynomial
unfoldable pub remainder : ℕ → ℕ
remainder w =
    let q = bit_xor (bit_xor (bit_xor (quotient w) (quotient w / 2 ^ 8)) (quotient w / 2 ^ 22)) (quotient w / 2 ^ 32) in
    let r = bit_xor (bit_xor (bit_xor q (q / 2 ^ 4)) (q / 2 ^ 11)) (q / 2 ^ 16) in
    bit_xor (bit_xor r (r * 2 ^ 5 % 2 ^ 64)) (r * 2 ^ 12 % 2 ^ 64) % 2 ^ 16

remainder_linear : Linear remainder
unfolding remainder
remainder_linear =
    let q = quotient_linear ⊕ down 8 quotient_linear ⊕ down 22 quotient_linear ⊕ down 32 quotient_linear in
    let r = q ⊕ down 4 q ⊕ down 11 q ⊕ down 16 q in
    low 16 (r ⊕ low 64 (up 5 r) ⊕ low 64 (up 12 r))

remainder_passes : all_in 0 64 (same_at remainder_linear (leaves self)) ≡ true
unfolding all_in each same_at remainder fed quotient crc_byte crc_bits crc_bit
remainder_passes = refl

pub remainder_word : (w : ℕ) → w < 2 ^ 64 → remainder w ≡ fed 8 0 w
remainder_word w h = agree remainder_linear (leaves self) 64 remainder_passes w h

-- ---- eight bytes of a list

-- the next byte comes behind the n of a word
more : (n c x : ℕ) (s : List ℕ) (i j : ℕ) {b : ℕ} → (b ≡ get_or s i 0) × (b < 256) → i < length s → i + 1 ≡ j
    → crc_from (fed n c x) (drop i s) ≡ crc_from (fed (suc n) c (x * 256 + b)) (drop j s)
unfolding fed
more n c x s i j {b} e l n1 =
    let d : (x * 256 + b) / 256 ≡ x = omega (arith, e.1) in
    let m : (x * 256 + b) % 256 ≡ b = omega (arith, e.1) in
    from_more (fed n c x) s i l
    ∙ ap₂ (λ (y z : ℕ). crc_from (crc_byte (fed n c y) z) (drop (i + 1) s)) (sym d) (sym (m ∙ e.0))
    ∙ ap (λ (k : ℕ). crc_from (fed (suc n) c (x * 256 + b)) (drop k s)) n1

-- eight bytes go into the register as the word that their bits are
pub eight_bytes : (c : ℕ) (s : List ℕ) (i : ℕ) → ((j : ℕ) → get_or s j 0 < 256) → i + 8 ≤ length s
    → crc_from c (drop i s) ≡ crc_from (fed 8 c (number_of (take 64 (drop (i * 8) (bits_in s))))) (drop (i + 8) s)
unfolding fed
eight_bytes c s i b l =
    let x1 = 0 * 256 + get_or s i 0 in
    let x2 = x1 * 256 + get_or s (i + 1) 0 in
    let x3 = x2 * 256 + get_or s (i + 2) 0 in
    let x4 = x3 * 256 + get_or s (i + 3) 0 in
    let x5 = x4 * 256 + get_or s (i + 4) 0 in
    let x6 = x5 * 256 + get_or s (i + 5) 0 in
    let x7 = x6 * 256 + get_or s (i + 6) 0 in
    let x8 = x7 * 256 + get_or s (i + 7) 0 in
    let sum : x8 ≡ number_of (take 64 (drop (i * 8) (bits_in s))) = omega (arith, as_bits s i b l) in
    more 0 c 0 s i (i + 1) (refl, b i) (omega arith) refl
    ∙ more 1 c x1 s (i + 1) (i + 2) (refl, b (i + 1)) (omega arith) (omega arith)
    ∙ more 2 c x2 s (i + 2) (i + 3) (refl, b (i + 2)) (omega arith) (omega arith)
    ∙ more 3 c x3 s (i + 3) (i + 4) (refl, b (i + 3)) (omega arith) (omega arith)
    ∙ more 4 c x4 s (i + 4) (i + 5) (refl, b (i + 4)) (omega arith) (omega arith)
    ∙ more 5 c x5 s (i + 5) (i + 6) (refl, b (i + 5)) (omega arith) (omega arith)
    ∙ more 6 c x6 s (i + 6) (i + 7) (refl, b (i + 6)) (omega arith) (omega arith)
    ∙ more 7 c x7 s (i + 7) (i + 8) (refl, b (i + 7)) (omega arith) (omega arith)
    ∙ ap (λ (x : ℕ). crc_from (fed 8 c x) (drop (i + 8) s)) sum

-- ---- bytes one part after another

-- the register after two parts
from_parts : (c : ℕ) (a b : List ℕ) → crc_from c (a ++ b) ≡ crc_from (crc_from c a) b
unfolding crc_from
from_parts c [] b = refl
from_parts c (x ∷ a) b = from_parts (crc_byte c x) a b

-- where v is the register after the first k bytes, those behind them go on from it
pub from_behind : (c v k : ℕ) (s : List ℕ) → crc_from c (take k s) ≡ v → crc_from c s ≡ crc_from v (drop k s)
from_behind c v k s e =
    ap (crc_from c) (sym (take-append-drop k s)) ∙ from_parts c (take k s) (drop k s) ∙ ap (λ (x : ℕ). crc_from x (drop k s)) e

-- a law of the bytes of a list up to k is one of the whole list, if it has no more
pub from_whole : (c v k : ℕ) (s : List ℕ) → length s ≤ k → crc_from c s ≡ crc_from v (drop k s) → crc_from c s ≡ v
unfolding crc_from
from_whole c v k s h e = e ∙ ap (crc_from v) (drop_of_length-le s h)
