-- Samples of 16 bits, seen one after another. Assumes nothing.
use Prim.Native.Nat.{ℕ, zero, suc, ◌<◌}
use mathlib.Core.Path.{◌≡◌}
use mathlib.Core.Bool.{true, and-eq-true_iff}
use mathlib.Core.List.{List, [], ◌∷◌}
use native.Mathlib.Omega.{arith}
use borrow.Author.Tests.{lt-ltb}
use lib.IntN.{ℤ, pos, negsuc}
use lib.ListN.{length, get_or, take}
use lib.Signed.{mag}
use Rattle.wire.specs.RuleWords.{every}
use Rattle.samples.specs.Trace.{fits16}

fits_small : (x : ℤ) → mag x < 32768 → fits16 x ≡ true
unfolding fits16
fits_small (pos n) h = lt-ltb n 32768 h
fits_small (negsuc n) h = lt-ltb n 32768 h

-- one more fits
pub fit_more : (xs : List ℤ) (i : ℕ) → i < length xs → every fits16 (take i xs) ≡ true → mag (get_or xs i (pos 0)) < 32768
    → every fits16 (take (suc i) xs) ≡ true
unfolding every
fit_more [] i h e m = absurd (omega arith)
fit_more (x ∷ xs) zero h e m = rw (fits_small x m)
fit_more (x ∷ xs) (suc i) h e m =
    let w = (and-eq-true_iff (fits16 x) (every fits16 (take i xs))).0 e in
    rw w.0 (fit_more xs i (omega arith) w.1 m)
