-- The meaning of a window of 64 bits on a stream, and a code turned round for it. No public contract rests on this.
use Rattle.std.specs.Prelude.{ℕ, ◌-◌, ◌/◌, ◌^◌, ◌≤◌, ◌≡◌, List, length, take}
use Rattle.bits.specs.Bits.{low_first, number_of}

-- the highest bits of w are the first of the bits bs, as far as there are any, up to 57
abbrev pub Window : List ℕ → ℕ → Type 0
Window bs w = (k : ℕ) → k ≤ 57 → k ≤ length bs → w / 2 ^ (64 - k) ≡ number_of (take k bs)

-- the number that the p lowest bits of c are with the lowest first
unfoldable pub turned : ℕ → ℕ → ℕ
turned p c = number_of (low_first p c)
