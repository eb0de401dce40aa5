-- Whole numbers held without a sign: how large they are, and when two are the same. Assumes nothing.
use Prim.Native.Nat.{ℕ, ◌+◌, ◌≤◌, ◌<◌}
use mathlib.Core.Path.{◌≡◌}
use mathlib.Core.Logic.{◌⊎◌}
use native.Mathlib.Omega.{arith}
use lib.Signed.{mag}
use Rattle.std.proofs.lemmas.Int.{ints}
use Rattle.std.proofs.lemmas.Bool.Decides.{nat_tests}
use Rattle.bits.specs.InnerRaised.{from_zero}

-- two that are held as one number are one
pub lower_one : (much x y : ℕ) → from_zero much x ≡ from_zero much y → x ≡ y
unfolding from_zero
lower_one much x y e = grind (arith, ints, nat_tests)

-- how large the number that is held is: within a bound, and not
pub mag_inside : (much x b : ℕ) → much ≤ x + b → x < much + b → mag (from_zero much x) < b
unfolding from_zero
mag_inside much x b h g = grind (arith, ints, nat_tests)

pub mag_outside : (much x b : ℕ) → (x + b < much) ⊎ (much + b ≤ x) → b ≤ mag (from_zero much x)
unfolding from_zero
mag_outside much x b o = grind (arith, ints, nat_tests)

-- two numbers hold the same where they differ as much as what is added does
pub lower_same : (a x b y : ℕ) → x + b ≡ y + a → from_zero a x ≡ from_zero b y
unfolding from_zero
lower_same a x b y e = grind (arith, ints, nat_tests)
