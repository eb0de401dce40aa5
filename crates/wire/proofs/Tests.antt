-- The meaning of a test in the code for a rule: for proofs of functions that ask a rule part by part. Assumes nothing.
use Prim.Native.Nat.{ℕ, ◌+◌, ◌≤◌, ◌<◌}
use mathlib.Core.Path.{◌≡◌, sym, ◌∙◌}
use mathlib.Core.Bool.{Bool, true, false}
use lib.Dec.{eqb}
use borrow.Author.Tests.{eq-eqb, ne_eqb}
use Rattle.wire.specs.RuleWords.{all_in}
use Rattle.wire.proofs.Laws.{all_step, all_miss, all_end}

-- a call answers b for a rule r, and the test of b finds the rule kept
pub kept : {b r : Bool} → b ≡ r → b ≡ true → r ≡ true
kept e t = sym e ∙ t

-- or broken
pub broken : {b r : Bool} → b ≡ r → b ≡ false → r ≡ false
broken e t = sym e ∙ t

-- x and y were found for the numbers a and b of a rule, and the test finds them the same
pub same : {x y a b : ℕ} → x ≡ a → y ≡ b → x ≡ y → eqb a b ≡ true
same {a = a} {b = b} p q h = eq-eqb a b (sym p ∙ h ∙ q)

-- or different
pub differ : {x y a b : ℕ} → x ≡ a → y ≡ b → (x ≡ y → ⊥) → eqb a b ≡ false
differ {a = a} {b = b} p q h = ne_eqb a b (λ e. h (p ∙ e ∙ sym q))

-- a loop has reached i, and the numbers from i on decide w
module _ (p : ℕ → Bool) (i e : ℕ) {w : Bool} (left : all_in i e p ≡ w) where
  -- a call answers b for i: where the test finds the rule kept, the numbers behind i decide w
  pub turn_kept : {b : Bool} → i < e → b ≡ p i → b ≡ true → all_in (i + 1) e p ≡ w
  turn_kept h a t = sym (all_step p i e h (kept a t)) ∙ left

  -- where it finds it broken, w is false
  pub turn_broken : {b : Bool} → i < e → b ≡ p i → b ≡ false → false ≡ w
  turn_broken h a t = sym (all_miss p i e h (broken a t)) ∙ left

  -- where no number is left, w is true
  pub turns_done : e ≤ i → true ≡ w
  turns_done h = sym (all_end p i e h) ∙ left
