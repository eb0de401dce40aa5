-- A refusal that is 15, 16, 11 or 0 by four cases that exclude each other is each of them exactly if its case holds. Assumes nothing.
use Prim.Native.Nat.{ℕ}
use mathlib.Core.Path.{◌≡◌}
use mathlib.Core.Logic.{◌↔◌}
use native.Mathlib.Omega.{arith}

-- the case that holds, with its number
pub data Case (n : ℕ) (P Q R S : Type 0) : Type 0 where
  first : n ≡ 15 → P → Case n P Q R S
  second : n ≡ 16 → Q → Case n P Q R S
  third : n ≡ 11 → R → Case n P Q R S
  fourth : n ≡ 0 → S → Case n P Q R S

-- no two hold
pub record Apart (P Q R S : Type 0) : Type 0 where
  pub first_second : P → Q → ⊥
  pub first_third : P → R → ⊥
  pub first_fourth : P → S → ⊥
  pub second_third : Q → R → ⊥
  pub second_fourth : Q → S → ⊥
  pub third_fourth : R → S → ⊥

pub exactly : {P Q R S : Type 0} (n : ℕ) → Case n P Q R S → Apart P Q R S
    → ((n ≡ 15) ↔ P) × ((n ≡ 16) ↔ Q) × ((n ≡ 11) ↔ R) × ((n ≡ 0) ↔ S)
exactly n (first e p) a = (
  (λ f. p, λ f. e),
  (λ f. absurd (omega (arith, e, f)), λ q. absurd (a.first_second p q)),
  (λ f. absurd (omega (arith, e, f)), λ r. absurd (a.first_third p r)),
  (λ f. absurd (omega (arith, e, f)), λ s. absurd (a.first_fourth p s)),
)
exactly n (second e q) a = (
  (λ f. absurd (omega (arith, e, f)), λ p. absurd (a.first_second p q)),
  (λ f. q, λ f. e),
  (λ f. absurd (omega (arith, e, f)), λ r. absurd (a.second_third q r)),
  (λ f. absurd (omega (arith, e, f)), λ s. absurd (a.second_fourth q s)),
)
exactly n (third e r) a = (
  (λ f. absurd (omega (arith, e, f)), λ p. absurd (a.first_third p r)),
  (λ f. absurd (omega (arith, e, f)), λ q. absurd (a.second_third q r)),
  (λ f. r, λ f. e),
  (λ f. absurd (omega (arith, e, f)), λ s. absurd (a.third_fourth r s)),
)
exactly n (fourth e s) a = (
  (λ f. absurd (omega (arith, e, f)), λ p. absurd (a.first_fourth p s)),
  (λ f. absurd (omega (arith, e, f)), λ q. absurd (a.second_fourth q s)),
  (λ f. absurd (omega (arith, e, f)), λ r. absurd (a.third_fourth r s)),
  (λ f. s, λ f. e),
)
