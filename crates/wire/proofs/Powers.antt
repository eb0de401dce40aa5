-- What bits and bytes do to the check's register: it is linear in `bit_xor`, so that a few registers of one bit each stand for all. Assumes
-- nothing.
use mathlib.Core.Bool.{true}
use mathlib.Core.Path.{◌≡◌, refl, sym, ap, ap₂, ◌∙◌}
use Prim.Native.Nat.{ℕ, zero, suc, ◌+◌, ◌*◌, ◌/◌, ◌%◌, ◌^◌, ◌<◌}
use native.Mathlib.Nat.{zero-add, suc-add, mod-lt, mod-eq_of_lt}
use native.Mathlib.Omega.{arith}
use lib.Pow.{pow_pos}
use lib.Bits.{bit_xor, xor_zero_r, xor_lt, xor_shr, xor_mod}
use borrow.Author.Tests.{lt-ltb, le-ltb}
use Rattle.wire.specs.RuleWords.{each, all_in}
use Rattle.wire.specs.Check.{crc_bit, crc_bits}
use Rattle.wire.proofs.Laws.{bit_small, bits_small}
use Rattle.wire.proofs.Xor.{xor_up, xor_swap, xor_cross, Linear, self, ◌⊕◌, down, low, up, same_at, agree}

-- ---- a bit

-- both cases of the definition in one: the highest bit, moved out, brings the polynomial
flat : (c : ℕ) → c < 65536 → crc_bit c ≡ bit_xor (c % 2 ^ 15 * 2) (c / 2 ^ 15 * 4129)
unfolding crc_bit
flat c h = go (c / 32768) refl
  where
    go : (q : ℕ) → c / 32768 ≡ q → crc_bit c ≡ bit_xor (c % 32768 * 2) (c / 32768 * 4129)
    go zero e = rw e (simp (lt-ltb c 32768 (omega arith)) (sym (xor_zero_r (c % 32768 * 2))))
    go (suc zero) e = rw e (simp (le-ltb c 32768 (omega arith)))
    go (suc (suc q)) e = absurd (omega arith)

gate : (x y : ℕ) → x < 2 → y < 2 → bit_xor x y * 4129 ≡ bit_xor (x * 4129) (y * 4129)
gate zero zero h k = refl
gate zero (suc zero) h k = refl
gate (suc zero) zero h k = refl
gate (suc zero) (suc zero) h k = refl
gate zero (suc (suc y)) h k = absurd (omega arith)
gate (suc zero) (suc (suc y)) h k = absurd (omega arith)
gate (suc (suc x)) y h k = absurd (omega arith)

bit_linear : (a b : ℕ) → a < 65536 → b < 65536 → crc_bit (bit_xor a b) ≡ bit_xor (crc_bit a) (crc_bit b)
bit_linear a b h k =
    flat (bit_xor a b) (xor_lt 16 a b h k)
    ∙ ap₂ (λ (x y : ℕ). bit_xor (x * 2) (y * 4129)) (xor_mod a b 15) (xor_shr a b 15)
    ∙ ap₂ bit_xor (xor_up 1 (a % 2 ^ 15) (b % 2 ^ 15)) (gate (a / 2 ^ 15) (b / 2 ^ 15) (omega arith) (omega arith))
    ∙ xor_swap (a % 2 ^ 15 * 2) (b % 2 ^ 15 * 2) (a / 2 ^ 15 * 4129) (b / 2 ^ 15 * 4129)
    ∙ sym (ap₂ bit_xor (flat a h) (flat b k))

-- ---- bits

pub bits_linear : (k a b : ℕ) → a < 65536 → b < 65536 → crc_bits k (bit_xor a b) ≡ bit_xor (crc_bits k a) (crc_bits k b)
unfolding crc_bits
bits_linear zero a b h l = refl
bits_linear (suc k) a b h l = ap (crc_bits k) (bit_linear a b h l) ∙ bits_linear k (crc_bit a) (crc_bit b) (bit_small a) (bit_small b)

pub bits_after : (j k c : ℕ) → crc_bits (j + k) c ≡ crc_bits k (crc_bits j c)
unfolding crc_bits
bits_after zero k c = ap (λ (n : ℕ). crc_bits n c) (zero-add k)
bits_after (suc j) k c = ap (λ (n : ℕ). crc_bits n c) (suc-add j k) ∙ bits_after j k (crc_bit c)

-- the register that the lowest 16 bits of a linear function lead to
pub onward : (k : ℕ) {f : ℕ → ℕ} → Linear f → Linear (λ x. crc_bits k (f x % 2 ^ 16))
onward k {f} p = record {
  is = λ a b. ap (crc_bits k) ((low 16 p).is a b) ∙ bits_linear k (f a % 2 ^ 16) (f b % 2 ^ 16) (mod-lt (f a) (pow_pos 16)) (mod-lt (f b) (pow_pos 16));
}

-- eight bits at once
unfoldable pub eight : ℕ → ℕ
eight x =
    let y = bit_xor (x / 2 ^ 8) (x / 2 ^ 12) in
    bit_xor (bit_xor (bit_xor (x * 2 ^ 8 % 2 ^ 16) (y * 2 ^ 12 % 2 ^ 16)) (y * 2 ^ 5 % 2 ^ 16)) y

eight_linear : Linear eight
unfolding eight
eight_linear =
    let y = down 8 self ⊕ down 12 self in
    low 16 (up 8 self) ⊕ low 16 (up 12 y) ⊕ low 16 (up 5 y) ⊕ y

eight_passes : all_in 0 16 (same_at eight_linear (onward 8 self)) ≡ true
unfolding all_in each same_at eight crc_bits crc_bit
eight_passes = refl

-- what a byte does to the register
pub eight_bits : (x : ℕ) → x < 65536 → eight x ≡ crc_bits 8 x
eight_bits x h = agree eight_linear (onward 8 self) 16 eight_passes x h ∙ ap (crc_bits 8) (mod-eq_of_lt h)

-- ---- the polynomial and its powers by 2, 4, 8 and on

-- the register after n bits is the sum of those after a bits, after b bits and now
abbrev pub Sum : ℕ → ℕ → ℕ → Type 0
Sum n a b = (c : ℕ) → c < 65536 → crc_bits n c ≡ bit_xor (bit_xor (crc_bits a c) (crc_bits b c)) c

base_passes : all_in 0 16 (same_at (onward 16 self) (onward 12 self ⊕ onward 5 self ⊕ onward 0 self)) ≡ true
unfolding all_in each same_at crc_bits crc_bit
base_passes = refl

base : Sum 16 12 5
unfolding crc_bits
base c h =
    let e : c % 2 ^ 16 ≡ c = mod-eq_of_lt h in
    rw e at (agree (onward 16 self) (onward 12 self ⊕ onward 5 self ⊕ onward 0 self) 16 base_passes c h)

-- squared: what stands twice goes
square : (n a b : ℕ) → Sum n a b → Sum (n + n) (a + a) (b + b)
square n a b h c l =
    let x = crc_bits a c in
    let y = crc_bits b c in
    let xl : crc_bits a c < 65536 = bits_small a c l in
    let yl : crc_bits b c < 65536 = bits_small b c l in
    let xy : crc_bits a y ≡ crc_bits b x = sym (bits_after b a c) ∙ ap (λ (k : ℕ). crc_bits k c) (omega arith) ∙ bits_after a b c in
    bits_after n n c
    ∙ h (crc_bits n c) (bits_small n c l)
    ∙ ap (λ (z : ℕ). bit_xor (bit_xor (crc_bits a z) (crc_bits b z)) z) (h c l)
    ∙ ap (λ (z : ℕ). bit_xor z (bit_xor (bit_xor x y) c))
    (ap₂ bit_xor (spread a x y c xl yl l ∙ ap (λ (z : ℕ). bit_xor (bit_xor (crc_bits a x) z) x) xy) (spread b x y c xl yl l)
    ∙ xor_swap (bit_xor (crc_bits a x) (crc_bits b x)) x (bit_xor (crc_bits b x) (crc_bits b y)) y
    ∙ ap (λ (z : ℕ). bit_xor z (bit_xor x y)) (xor_cross (crc_bits a x) (crc_bits b x) (crc_bits b y)))
    ∙ xor_cross (bit_xor (crc_bits a x) (crc_bits b y)) (bit_xor x y) c
    ∙ sym (ap₂ (λ (u v : ℕ). bit_xor (bit_xor u v) c) (bits_after a a c) (bits_after b b c))
  where
    spread : (k x y c : ℕ) → x < 65536 → y < 65536 → c < 65536
        → crc_bits k (bit_xor (bit_xor x y) c) ≡ bit_xor (bit_xor (crc_bits k x) (crc_bits k y)) (crc_bits k c)
    spread k x y c hx hy hc = bits_linear k (bit_xor x y) c (xor_lt 16 x y hx hy) hc ∙ ap (λ (z : ℕ). bit_xor z (crc_bits k c)) (bits_linear k x y hx hy)

-- its 64th power
pub power64 : Sum 1024 768 320
power64 = square 512 384 160 (square 256 192 80 (square 128 96 40 (square 64 48 20 (square 32 24 10 (square 16 12 5 base)))))
