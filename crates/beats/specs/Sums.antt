-- The reference beat added to a lead (01, Leads and samples; row 13: 01, Refusal numbers): s is Section 4 with its header. Zones count
-- from 0 here, samples from 1, and a lead's samples by Section 3's numbers.
use Rattle.std.specs.Prelude.{ℕ, zero, suc, ◌+◌, ◌-◌, Bool, ◌&&◌, cond, List, [], ◌∷◌, leb, eqb, ℤ, pos, ◌+ℤ◌, get_or}
use Rattle.entries.specs.Section4.{fiducial_of, qrs_count, qrs_type, zone_begin, qrs_fiducial, zone_end}
use Rattle.samples.specs.Trace.{Trace, rebuilt, after_sample}

-- sample n lies in zone k, which is of type 0
unfoldable pub in_zone : List ℕ → ℕ → ℕ → Bool
in_zone s k n = eqb (qrs_type s k) 0 && (leb (zone_begin s k) n && leb n (zone_end s k))

-- the number, from 1, of the beat's sample that sample n gets: n - C + F, by the first zone that it lies in among this many zones from
-- k on. In a section that keeps its rule this is 1 or more for every n of a zone, and is never cut off at 0; so 0 says that n lies in
-- no zone
unfoldable pub beat_place_from : List ℕ → ℕ → ℕ → ℕ → ℕ
beat_place_from s zero k n = 0
beat_place_from s (suc zones) k n = cond (in_zone s k n) (n + fiducial_of s - qrs_fiducial s k) (beat_place_from s zones (k + 1) n)

-- the same by all zones of the section. Zones of type 0 do not overlap, so that sample n lies in at most one; no other type adds
-- anything
unfoldable pub beat_place : List ℕ → ℕ → ℕ
beat_place s n = beat_place_from s (qrs_count s) 0 n

-- the beat's sample of a number, from 1; nothing is added where the number is 0
unfoldable pub beat_value_at : List ℤ → ℕ → ℤ
beat_value_at beat zero = pos 0
beat_value_at beat (suc j) = get_or beat j (pos 0)

-- a lead's samples with the beat added, from sample n on; 13 where a sum is outside 16 bits
unfoldable pub add_beat : List ℕ → List ℤ → ℕ → List ℤ → Trace
add_beat s beat n [] = rebuilt []
add_beat s beat n (x ∷ xs) = after_sample (λ y. add_beat s beat (n + 1) xs) (x +ℤ beat_value_at beat (beat_place s n))
