-- The lower half of the numbers goes above 131,072, the upper half below it, as two's complement has them above and below 0.
use Prim.Native.Nat.{ℕ, ◌+◌, ◌-◌, ◌*◌}
use mathlib.Core.Path.{ap, ◌∙◌}
use native.Mathlib.Omega.{arith}
use Rattle.bits.specs.InnerRaised.{from_zero}
use Rattle.reading.proofs.Cursors.{lower_low, lower_high}
use Rattle.reading.proofs.raised.Goals as goal

pub returns-then-n-half : goal.returns-then-n-half
returns-then-n-half c = (λ w e. lower_low w c.args.n (omega arith), omega arith)

pub returns-else-n-half : goal.returns-else-n-half
returns-else-n-half c = let n = c.args.n in (
  λ w e.
      ap (λ (half : ℕ). from_zero 131072 (131072 + n - 2 * half)) e ∙ lower_high w n (omega arith) (omega arith) (omega arith),
  omega arith,
)
