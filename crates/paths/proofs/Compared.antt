-- Streams compared: what is added at either end, and the order of more than two. Assumes nothing.
use Prim.Native.Nat.{ℕ, ◌≤◌}
use mathlib.Core.Path.{◌≡◌, refl, sym}
use mathlib.Core.List.{List, [], ◌∷◌, ◌++◌}
use mathlib.Core.Logic.{◌⊎◌, ⊎_elim}
use native.Mathlib.Omega.{arith}
use native.Mathlib.Nat.{lt_trans}
use lib.ListN.{length}
use Rattle.paths.specs.Before.{Before, here, there}

-- whatever follows
pub before_tails : {a b : List ℕ} (x y : List ℕ) → Before a b → Before (a ++ x) (b ++ y)
before_tails x y (here h) = here h
before_tails x y (there h) = there (before_tails x y h)

-- the same in front of both
pub before_under : (w : List ℕ) {x y : List ℕ} → Before x y → Before (w ++ x) (w ++ y)
before_under [] h = h
before_under (b ∷ w) h = there (before_under w h)

pub before_trans : {a b c : List ℕ} → Before a b → Before b c → Before a c
before_trans (here h) (here k) = here (lt_trans h k)
before_trans (here h) (there k) = here h
before_trans (there h) (here k) = here k
before_trans (there h) (there k) = there (before_trans h k)

before_asym_at : {a b c d : List ℕ} → Before a b → Before c d → b ≡ c → a ≡ d → ⊥
before_asym_at (here {x = x} {y = y} h) (here {x = x'} {y = y'} k) e f = let p : y ≡ x' = cc in let q : x ≡ y' = cc in omega arith
before_asym_at (here {x = x} {y = y} h) (there {x = x'} k) e f = let p : y ≡ x' = cc in let q : x ≡ x' = cc in omega arith
before_asym_at (there {x = x} h) (here {x = x'} {y = y'} k) e f = let p : x ≡ x' = cc in let q : x ≡ y' = cc in omega arith
before_asym_at (there {a = a} {b = b} h) (there {a = a'} {b = b'} k) e f = let p : b ≡ a' = cc in let q : a ≡ b' = cc in before_asym_at h k p q

pub before_asym : {a b : List ℕ} → Before a b → Before b a → ⊥
before_asym h k = before_asym_at h k refl refl

-- of two that are each no longer than the other, and each the other or the smaller of equally long ones, there is one only
pub compared_unique : (a b : List ℕ) → length a ≤ length b → length b ≤ length a → (length b ≡ length a → (a ≡ b) ⊎ Before a b)
    → (length a ≡ length b → (b ≡ a) ⊎ Before b a) → a ≡ b
compared_unique a b l m x y =
    ⊎_elim (λ p. p) (λ p. ⊎_elim (λ q. sym q) (λ q. absurd (before_asym p q)) (y (omega arith))) (x (omega arith))
