-- Laws of `bit_xor`, addition without carries, and of functions that are linear in it: two of them that agree at the powers of 2 agree, so
-- that a rule of all numbers follows from one computed test of a few. Assumes nothing.
use mathlib.Core.Path.{◌≡◌, refl, sym, ap, ap₂, ◌∙◌}
use mathlib.Core.Bool.{Bool, true}
use Prim.Native.Nat.{ℕ, zero, suc, ◌+◌, ◌*◌, ◌/◌, ◌%◌, ◌-◌, ◌^◌, ◌<◌, ◌≤◌}
use native.Mathlib.Nat.{add-zero, pow-suc}
use native.Mathlib.Omega.{arith}
use native.Mathlib.Decide.{dec_lt}
use lib.Arith.{bin_ind}
use lib.Dec.{eqb}
use lib.Pow.{pow_pos}
use lib.Bits.{bit_xor, differ, xor_step, xor_shr, xor_mod, xor_block, xor_comm, xor_self, xor_zero_l, xor_shifted}
use borrow.Author.Tests.{eqb-true}
use Rattle.wire.specs.RuleWords.{all_in}
use Rattle.wire.proofs.Laws.{all_at}

-- ---- sums

differ_lt : (x y : ℕ) → x < 2 → y < 2 → differ x y < 2
differ_lt zero y h k = k
differ_lt (suc zero) zero h k = h
differ_lt (suc zero) (suc zero) h k = omega arith
differ_lt (suc zero) (suc (suc y)) h k = absurd (omega arith)
differ_lt (suc (suc x)) y h k = absurd (omega arith)

differ_assoc : (x y z : ℕ) → x < 2 → y < 2 → z < 2 → differ (differ x y) z ≡ differ x (differ y z)
differ_assoc zero y z h k l = refl
differ_assoc (suc (suc x)) y z h k l = absurd (omega arith)
differ_assoc (suc zero) (suc (suc y)) z h k l = absurd (omega arith)
differ_assoc (suc zero) zero z h k l = refl
differ_assoc (suc zero) (suc zero) (suc (suc z)) h k l = absurd (omega arith)
differ_assoc (suc zero) (suc zero) zero h k l = refl
differ_assoc (suc zero) (suc zero) (suc zero) h k l = refl

bit : (q d : ℕ) → d < 2 → (q * 2 + d) % 2 ≡ d
bit q d h = omega arith

-- the lowest digit of a sum
xor_odd : (a b : ℕ) → bit_xor a b % 2 ≡ differ (a % 2) (b % 2)
xor_odd a b =
    ap (λ (n : ℕ). n % 2) (xor_step a b)
    ∙ bit (bit_xor (a / 2) (b / 2)) (differ (a % 2) (b % 2)) (differ_lt (a % 2) (b % 2) (omega arith) (omega arith))

pub xor_assoc : (a b c : ℕ) → bit_xor (bit_xor a b) c ≡ bit_xor a (bit_xor b c)
xor_assoc =
    bin_ind (λ (a : ℕ). (b c : ℕ) → bit_xor (bit_xor a b) c ≡ bit_xor a (bit_xor b c)) (λ b c. refl)
    (λ a ih b c.
    xor_step (bit_xor a b) c
    ∙ ap₂ (λ (x y : ℕ). bit_xor x (c / 2) * 2 + differ y (c % 2)) (xor_shr a b 1) (xor_odd a b)
    ∙ ap₂ (λ (x y : ℕ). x * 2 + y) (ih (b / 2) (c / 2)) (differ_assoc (a % 2) (b % 2) (c % 2) (omega arith) (omega arith) (omega arith))
    ∙ sym (xor_step a (bit_xor b c) ∙ ap₂ (λ (x y : ℕ). bit_xor (a / 2) x * 2 + differ (a % 2) y) (xor_shr b c 1) (xor_odd b c)))

-- (p + q) + (r + s) is (p + r) + (q + s)
pub xor_swap : (p q r s : ℕ) → bit_xor (bit_xor p q) (bit_xor r s) ≡ bit_xor (bit_xor p r) (bit_xor q s)
xor_swap p q r s =
    xor_assoc p q (bit_xor r s)
    ∙ ap (bit_xor p) (sym (xor_assoc q r s) ∙ ap (λ (x : ℕ). bit_xor x s) (xor_comm q r) ∙ xor_assoc r q s)
    ∙ sym (xor_assoc p r (bit_xor q s))

-- what is added twice goes
pub xor_cross : (p q r : ℕ) → bit_xor (bit_xor p q) (bit_xor q r) ≡ bit_xor p r
xor_cross p q r =
    xor_assoc p q (bit_xor q r)
    ∙ ap (bit_xor p) (sym (xor_assoc q q r) ∙ ap (λ (x : ℕ). bit_xor x r) (xor_self q) ∙ xor_zero_l r)

-- a power of 2 as a factor
pub xor_up : (k a b : ℕ) → bit_xor a b * 2 ^ k ≡ bit_xor (a * 2 ^ k) (b * 2 ^ k)
xor_up k a b =
    sym (ap₂ bit_xor (sym (add-zero (a * 2 ^ k))) (sym (add-zero (b * 2 ^ k)))
    ∙ xor_block k a b 0 0 (pow_pos k) (pow_pos k)
    ∙ add-zero (bit_xor a b * 2 ^ k))

-- ---- linear functions: a record, so that the function is inferred

pub record Linear (f : ℕ → ℕ) : Type 0 where
  pub is : (a b : ℕ) → f (bit_xor a b) ≡ bit_xor (f a) (f b)

pub self : Linear (λ x. x)
self = record { is = λ a b. refl }

infixl 20 ◌⊕◌
pub ◌⊕◌ : {f g : ℕ → ℕ} → Linear f → Linear g → Linear (λ x. bit_xor (f x) (g x))
◌⊕◌ {f} {g} p q = record { is = λ a b. ap₂ bit_xor (p.is a b) (q.is a b) ∙ xor_swap (f a) (f b) (g a) (g b) }

-- moved down; the lowest bits; moved up
pub down : (k : ℕ) {f : ℕ → ℕ} → Linear f → Linear (λ x. f x / 2 ^ k)
down k {f} p = record { is = λ a b. ap (λ (x : ℕ). x / 2 ^ k) (p.is a b) ∙ xor_shr (f a) (f b) k }

pub low : (k : ℕ) {f : ℕ → ℕ} → Linear f → Linear (λ x. f x % 2 ^ k)
low k {f} p = record { is = λ a b. ap (λ (x : ℕ). x % 2 ^ k) (p.is a b) ∙ xor_mod (f a) (f b) k }

pub up : (k : ℕ) {f : ℕ → ℕ} → Linear f → Linear (λ x. f x * 2 ^ k)
up k {f} p = record { is = λ a b. ap (λ (x : ℕ). x * 2 ^ k) (p.is a b) ∙ xor_up k (f a) (f b) }

-- ---- two that agree at the powers of 2 agree

-- at 0 a linear function is 0
nothing : {f : ℕ → ℕ} → Linear f → f 0 ≡ 0
nothing {f} p = p.is 0 0 ∙ xor_self (f 0)

module _ {f g : ℕ → ℕ} (p : Linear f) (q : Linear g) where
  unfoldable pub same_at : ℕ → Bool
  same_at i = eqb (f (2 ^ i)) (g (2 ^ i))

  -- w has the digit n
  top : (n w : ℕ) → f (2 ^ n) ≡ g (2 ^ n) → ((r : ℕ) → r < 2 ^ n → f r ≡ g r) → 2 ^ n ≤ w → w < 2 ^ suc n → f w ≡ g w
  top n w e below l h =
      let small : w - 2 ^ n < 2 ^ n = omega (arith, pow-suc 2 n) in
      let whole : bit_xor (1 * 2 ^ n) (w - 2 ^ n) ≡ w = xor_shifted 1 n (w - 2 ^ n) small ∙ omega arith in
      let single : 1 * 2 ^ n ≡ 2 ^ n = omega arith in
      ap f (sym whole)
      ∙ p.is (1 * 2 ^ n) (w - 2 ^ n)
      ∙ ap₂ bit_xor (ap f single ∙ e ∙ sym (ap g single)) (below (w - 2 ^ n) small)
      ∙ sym (q.is (1 * 2 ^ n) (w - 2 ^ n))
      ∙ ap g whole

  below_power : (n : ℕ) → ((k : ℕ) → k < n → f (2 ^ k) ≡ g (2 ^ k)) → (w : ℕ) → w < 2 ^ n → f w ≡ g w
  below_power zero t w h = let e : w ≡ 0 = omega arith in ap f e ∙ nothing p ∙ sym (nothing q) ∙ sym (ap g e)
  below_power (suc n) t w h = go (below_power n (λ k l. t k (omega arith))) (dec_lt w (2 ^ n))
    where
      go : ((v : ℕ) → v < 2 ^ n → f v ≡ g v) → Dec (w < 2 ^ n) → f w ≡ g w
      go rest (yes l) = rest w l
      go rest (no l) = top n w (t n (omega arith)) rest (omega arith) h

  pub agree : (n : ℕ) → all_in 0 n same_at ≡ true → (w : ℕ) → w < 2 ^ n → f w ≡ g w
  unfolding same_at
  agree n t = below_power n (λ k l. eqb-true (f (2 ^ k)) (g (2 ^ k)) (all_at same_at 0 n t k (omega arith) l))
