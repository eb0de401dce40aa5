-- Section 3 (01, Leads and samples; 01, Numbers that bound the work; row 8 and the spare byte: 01, Refusal numbers): s is the section
-- with its header, so its data start at place 16. Leads count from 0 here.
use Rattle.std.specs.Prelude.{ℕ, ◌+◌, ◌-◌, ◌*◌, ◌%◌, Bool, ◌&&◌, List, leb, eqb}
use Rattle.wire.specs.Bounds.{most_leads, most_samples}
use Rattle.wire.specs.Numbers.{byte_at, number_at}
use Rattle.wire.specs.RuleWords.{all_in, ends_by}

-- a byte says how many leads there are, and a byte has the flags, of which bit 0 is 1 where a reference beat was
-- subtracted; no rule looks at the others
abbrev pub lead_count : List ℕ → ℕ
lead_count s = byte_at s 16

abbrev pub flags_of : List ℕ → ℕ
flags_of s = byte_at s 17

abbrev pub subtracted : List ℕ → Bool
subtracted s = eqb (flags_of s % 2) 1

-- nine bytes for each lead: the number of its first sample (4), that of its last (4), and its ID (1)
abbrev pub first_sample : List ℕ → ℕ → ℕ
first_sample s k = number_at 4 s (18 + 9 * k)

abbrev pub last_sample : List ℕ → ℕ → ℕ
last_sample s k = number_at 4 s (22 + 9 * k)

abbrev pub lead_id : List ℕ → ℕ → ℕ
lead_id s k = byte_at s (26 + 9 * k)

-- how many samples a lead has, from the first to the last, both counted
abbrev pub sample_count : List ℕ → ℕ → ℕ
sample_count s k = last_sample s k + 1 - first_sample s k

-- a lead's first sample has number 1 or more, its last is not before it, and there are at most 65,536
unfoldable pub lead_right : List ℕ → ℕ → Bool
lead_right s k = leb 1 (first_sample s k) && (leb (first_sample s k) (last_sample s k) && leb (sample_count s k) most_samples)

-- 1 to 32 leads, each by its rule, and behind them at most one spare byte
unfoldable pub section3_right : List ℕ → Bool
section3_right s =
    leb 1 (lead_count s)
    && (leb (lead_count s) most_leads && (all_in 0 (lead_count s) (lead_right s) && ends_by 1 s (18 + 9 * lead_count s)))
