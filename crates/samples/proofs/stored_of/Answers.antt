use Prim.Native.Nat.{ℕ, ◌+◌, ◌-◌, ◌*◌, ◌<◌}
use mathlib.Core.Path.{◌≡◌}
use lib.IntN.{◌+ℤ◌, ◌-ℤ◌}
use native.Mathlib.Omega.{arith}
use Rattle.std.proofs.lemmas.Int.{ints}
use Rattle.std.proofs.lemmas.Bool.Decides.{nat_tests}
use Rattle.bits.specs.InnerRaised.{from_zero}
use Rattle.samples.specs.Differences.{stored_of}
use Rattle.samples.proofs.stored_of.Goals as goal

-- the difference of order 2
twice : (x last other : ℕ) → x < 65536 → last < 65536 → other < 65536
    → from_zero 131072 (x + other + 131072 - 2 * last)
    ≡ from_zero 32768 x -ℤ (from_zero 32768 last +ℤ from_zero 32768 last) +ℤ from_zero 32768 other
unfolding from_zero
twice x last other h g l = grind (arith, ints, nat_tests)

pub returns-else-order-eq1 : goal.returns-else-order-eq1
unfolding stored_of
returns-else-order-eq1 c = let a = c.args in
    let two = twice a.x a.last a.other (omega arith) (omega arith) (omega arith) in
    grind (arith, nat_tests)
