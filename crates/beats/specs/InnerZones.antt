-- The zone that the samples from one on ask first. No public contract rests on this.
use Rattle.std.specs.Prelude.{ℕ, ◌-◌, ◌≤◌, ◌<◌, ◌≡◌, List}
use Rattle.entries.specs.Section4.{qrs_type, zone_end}
use Rattle.beats.specs.Sums.{beat_place_from}

-- zone k, where there is one, is of type 0 and does not end before sample n
abbrev pub Reaches : List ℕ → ℕ → ℕ → ℕ → Type 0
Reaches s zones k n = k < zones → (qrs_type s k ≡ 0) × (n ≤ zone_end s k)

-- samples from n on get the same from zone k on as from zone j on
abbrev pub Alike : List ℕ → ℕ → ℕ → ℕ → ℕ → Type 0
Alike s zones k j n = (m : ℕ) → n ≤ m → beat_place_from s (zones - k) k m ≡ beat_place_from s (zones - j) j m
