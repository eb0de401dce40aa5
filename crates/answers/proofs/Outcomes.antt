-- Any two outcomes that a public contract allows are equal. Assumes nothing.
use Prim.Native.Nat.{ℕ}
use mathlib.Core.Path.{◌≡◌, sym, ◌∙◌, ap₂}
use Rattle.scp.specs.declared.ScpOpened.{ScpOpened}
use Rattle.encode.proofs.Unique.{encoded_unique}
use Rattle.compose.proofs.Unique.{wrote_unique}
use Rattle.answers.specs.Demands.{OneOutcome}

opened : (a b : ScpOpened) → a.refusal ≡ b.refusal → a.count ≡ b.count → a ≡ b
opened a b e f = ap₂ (λ (n m : ℕ). record { refusal = n; count = m }) e f

pub outcomes : OneOutcome
outcomes = record {
  equation = λ a b of e f. e ∙ sym f;
  opening = λ r lent a b p q e f. (opened a b (e.0 ∙ sym f.0) (e.1 ∙ sym f.1), e.2 ∙ sym f.2);
  encoding = λ s2 xs order work out a b w v o p f g. encoded_unique f g;
  writing = λ j work out a b w v o p f g. wrote_unique f g;
}
