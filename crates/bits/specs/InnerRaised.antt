-- Whole numbers held without a sign, with a number added so that none is below 0. No public contract rests on this.
use Rattle.std.specs.Prelude.{ℕ, suc, ◌-◌, cond, ℤ, pos, negsuc, ltb}

-- a sample is held with this much added, a stored value with that much
abbrev pub sample_zero : ℕ
sample_zero = 32768

abbrev pub value_zero : ℕ
value_zero = 131072

-- the whole number that x holds, where `origin` holds 0
unfoldable pub from_zero : ℕ → ℕ → ℤ
from_zero origin x = cond (ltb x origin) (negsuc (origin - suc x)) (pos (x - origin))
