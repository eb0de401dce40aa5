-- Sections 5 and 6 (01, Leads and samples; row 8 and the spare byte: 01, Refusal numbers): s is the section with its header, n the
-- number of leads in Section 3, and k a lead, counted from 0.
use Rattle.std.specs.Prelude.{ℕ, zero, suc, ◌+◌, ◌*◌, Bool, not, ◌&&◌, List, leb, eqb}
use Rattle.wire.specs.Numbers.{byte_at, number_at, part}
use Rattle.wire.specs.RuleWords.{ends_by}

-- the step between amplitudes in nanovolts (2), the interval between samples in microseconds (2), the difference order (1), and
-- a byte that Section 6 has for bimodal
abbrev pub step_of : List ℕ → ℕ
step_of s = number_at 2 s 16

abbrev pub interval_of : List ℕ → ℕ
interval_of s = number_at 2 s 18

abbrev pub order_of : List ℕ → ℕ
order_of s = byte_at s 20

abbrev pub bimodal_of : List ℕ → ℕ
bimodal_of s = byte_at s 21

-- how many bytes each lead's stream has (2 for each lead); the streams follow these counts, in the order of the leads
abbrev pub byte_count_of : List ℕ → ℕ → ℕ
byte_count_of s k = number_at 2 s (22 + 2 * k)

-- how many bytes the streams before that of lead k have together
unfoldable pub bytes_before : List ℕ → ℕ → ℕ
bytes_before s zero = 0
bytes_before s (suc k) = bytes_before s k + byte_count_of s k

-- the place where the stream of lead k starts; for k = n, the place after the last stream
unfoldable pub stream_start : ℕ → List ℕ → ℕ → ℕ
stream_start n s k = 22 + 2 * n + bytes_before s k

-- the bytes of the stream of lead k
unfoldable pub stream_of : ℕ → List ℕ → ℕ → List ℕ
stream_of n s k = part s (stream_start n s k) (stream_start n s k + byte_count_of s k)

-- neither step nor interval is 0, the order is 0 to 2, and the streams end with the section, or one spare byte before its end
unfoldable pub streams_right : ℕ → List ℕ → Bool
streams_right n s =
    not (eqb (step_of s) 0) && (not (eqb (interval_of s) 0) && (leb (order_of s) 2 && ends_by 1 s (stream_start n s n)))

-- Section 6 keeps that rule, and its byte for bimodal is 0 or 1; in Section 5 the byte is reserved, and not judged
unfoldable pub section6_right : ℕ → List ℕ → Bool
section6_right n s = leb (bimodal_of s) 1 && streams_right n s
