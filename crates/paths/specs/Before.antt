-- Streams compared (01, Refusal numbers, the tie in the paragraphs under the table): which of two comes first.
use Rattle.std.specs.Prelude.{ℕ, ◌<◌, List, ◌∷◌}

-- the first differing bit lies inside both streams, and is smaller in the first
pub data Before : List ℕ → List ℕ → Type 0 where
  here : {x y : ℕ} {a b : List ℕ} → x < y → Before (x ∷ a) (y ∷ b)
  there : {x : ℕ} {a b : List ℕ} → Before a b → Before (x ∷ a) (x ∷ b)
