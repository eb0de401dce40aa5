-- Two identifiers are the same exactly if their bytes are equal (01, Header fields and the patient identifier). Assumes nothing.
use Prim.Native.Nat.{ℕ}
use mathlib.Core.Path.{◌≡◌, refl, ap₂}
use mathlib.Core.Bool.{true, and-eq-true_iff}
use mathlib.Core.List.{List, [], ◌∷◌}
use lib.Dec.{eqb}
use borrow.Author.Tests.{eqb-true, eq-eqb}
use Rattle.wire.proofs.Laws.{unlike}
use Rattle.fields.specs.Identifier.{same}

-- what has equal bytes is the same
pub equal_same : (l : List ℕ) → same l l ≡ true
unfolding same
equal_same [] = refl
equal_same (b ∷ l) = rw (eq-eqb b b refl, equal_same l)

-- what is the same has equal bytes
pub same_equal : (a b : List ℕ) → same a b ≡ true → a ≡ b
unfolding same
same_equal [] [] h = refl
same_equal [] (y ∷ b) h = unlike cc
same_equal (x ∷ a) [] h = unlike cc
same_equal (x ∷ a) (y ∷ b) h =
    let w = (and-eq-true_iff (eqb x y) (same a b)).0 h in
    ap₂ ◌∷◌ (eqb-true x y w.0) (same_equal a b w.1)
