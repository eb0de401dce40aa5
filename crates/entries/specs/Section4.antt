-- Section 4 (01, Leads and samples; 01, Numbers that bound the work; row 8: 01, Refusal numbers): s is the section with its header. QRS
-- complexes and their zones count from 0 here, samples of the beat from 1.
use Rattle.std.specs.Prelude.{ℕ, zero, suc, ◌+◌, ◌*◌, ◌/◌, Bool, ◌&&◌, cond, List, leb, ltb, eqb, length}
use Rattle.wire.specs.Bounds.{most_samples, most_qrs}
use Rattle.wire.specs.Numbers.{number_at}
use Rattle.wire.specs.RuleWords.{all_in}

-- the beat's length in ms, its fiducial F, and how many QRS complexes there are, in two bytes each
abbrev pub beat_length : List ℕ → ℕ
beat_length s = number_at 2 s 16

abbrev pub fiducial_of : List ℕ → ℕ
fiducial_of s = number_at 2 s 18

abbrev pub qrs_count : List ℕ → ℕ
qrs_count s = number_at 2 s 20

-- behind these, 14 bytes for each QRS: two for its type, then four each for SB, for its fiducial C and for SE. From SB to SE is its zone
abbrev pub qrs_type : List ℕ → ℕ → ℕ
qrs_type s k = number_at 2 s (22 + 14 * k)

abbrev pub zone_begin : List ℕ → ℕ → ℕ
zone_begin s k = number_at 4 s (24 + 14 * k)

abbrev pub qrs_fiducial : List ℕ → ℕ → ℕ
qrs_fiducial s k = number_at 4 s (28 + 14 * k)

abbrev pub zone_end : List ℕ → ℕ → ℕ
zone_end s k = number_at 4 s (32 + 14 * k)

-- N, the number of samples that a beat of `ms` milliseconds has at an interval of `interval` microseconds, rounded down
unfoldable pub samples_in_beat : ℕ → ℕ → ℕ
samples_in_beat ms interval = 1000 * ms / interval

-- SE of the nearest zone of type 0 before the k-th, which is the largest SE so far where those zones keep their rule; 0 where there is
-- none
unfoldable pub last_before : List ℕ → ℕ → ℕ
last_before s zero = 0
last_before s (suc k) = cond (eqb (qrs_type s k) 0) (zone_end s k) (last_before s k)

-- a zone of type 0 starts at sample 1 or later and does not end before it starts; it starts behind the nearest zone of type 0 before
-- it; and for every n in it the beat has a sample n - C + F. That number grows with n, so that it is from 1 to N for every n of the
-- zone if it is at least 1 for the first, SB, and at most N for the last, SE. For any other type, SB and SE are both 0
unfoldable pub zone_right : ℕ → List ℕ → ℕ → Bool
zone_right samples s k =
    cond (eqb (qrs_type s k) 0)
    (leb 1 (zone_begin s k)
    && (leb (zone_begin s k) (zone_end s k)
    && (ltb (last_before s k) (zone_begin s k)
    && (leb (qrs_fiducial s k + 1) (zone_begin s k + fiducial_of s)
    && leb (zone_end s k + fiducial_of s) (qrs_fiducial s k + samples)))))
    (eqb (zone_begin s k) 0 && eqb (zone_end s k) 0)

-- the beat has 1 to 65,536 samples, F is one of them, and there are at most 1,024 QRS, all of them in the section, each by its rule.
-- Whatever follows them is not judged
unfoldable pub section4_right : ℕ → List ℕ → Bool
section4_right samples s =
    leb 1 samples
    && (leb samples most_samples
    && (leb 1 (fiducial_of s)
    && (leb (fiducial_of s) samples
    && (leb (qrs_count s) most_qrs
    && (leb (22 + 14 * qrs_count s) (length s) && all_in 0 (qrs_count s) (zone_right samples s))))))
