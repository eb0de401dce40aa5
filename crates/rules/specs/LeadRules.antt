-- Refusals 7 to 10, a rule each, over the bytes r of a record (01, Code tables; 01, Leads and samples; 01, Refusal numbers), and the
-- smallest of 1 to 10. Each means its row for bytes that keep the rules before it.
use Rattle.std.specs.Prelude.{ℕ, Bool, not, ◌&&◌, ◌||◌, cond, List, leb, eqb}
use Rattle.wire.specs.RuleWords.{unless}
use Rattle.pointers.specs.Pointers.{data_at, present, section_of}
use Rattle.record.specs.Opening.{open_refusal, opens}
use Rattle.tables.specs.Section2.{section2_right}
use Rattle.entries.specs.Section3.{lead_count, subtracted, section3_right}
use Rattle.entries.specs.Sections5And6.{step_of, interval_of, bimodal_of, streams_right, section6_right}
use Rattle.entries.specs.Section4.{beat_length, samples_in_beat, section4_right}

-- 7: Section 2 is absent, or keeps its rule, with at most one spare byte
unfoldable pub tables_right : List ℕ → Bool
tables_right r = not (present r 2) || section2_right 1 (section_of r 2) data_at

-- how many leads Section 3 says that there are
abbrev pub lead_count_of : List ℕ → ℕ
lead_count_of r = lead_count (section_of r 3)

-- Section 3 is there, and says that a beat was subtracted
unfoldable pub beat_subtracted : List ℕ → Bool
beat_subtracted r = present r 3 && subtracted (section_of r 3)

-- how many samples the record's beat has: its length is Section 4's, its interval Section 5's
unfoldable pub beat_sample_count : List ℕ → ℕ
beat_sample_count r = samples_in_beat (beat_length (section_of r 4)) (interval_of (section_of r 5))

-- where a beat was subtracted, Sections 4 and 5 are there and keep their rules; else nothing is asked of them
unfoldable pub beat_right : List ℕ → Bool
beat_right r =
    not (beat_subtracted r)
    || (present r 4
    && (present r 5
    && (streams_right (lead_count_of r) (section_of r 5) && section4_right (beat_sample_count r) (section_of r 4))))

-- Section 6 is absent, or keeps its rule
unfoldable pub section6_kept : List ℕ → Bool
section6_kept r = not (present r 6) || section6_right (lead_count_of r) (section_of r 6)

-- 8: Section 3 keeps its rule, Section 6 its own if it is there, and Sections 4 and 5 theirs if a beat was subtracted;
-- with no Section 3 there is no Section 6
unfoldable pub sections3_to6_right : List ℕ → Bool
sections3_to6_right r =
    cond (present r 3)
    (section3_right (section_of r 3) && (beat_right r && section6_kept r))
    (not (present r 6))

-- no beat was subtracted, or Section 5 has both the step and the interval of Section 6
unfoldable pub steps_agree : List ℕ → Bool
steps_agree r =
    not (beat_subtracted r)
    || (eqb (step_of (section_of r 5)) (step_of (section_of r 6)) && eqb (interval_of (section_of r 5)) (interval_of (section_of r 6)))

-- 9: there is no Section 6; or its bimodal byte is 0, and its step and interval are Section 5's where a beat was subtracted
unfoldable pub agrees : List ℕ → Bool
agrees r = not (present r 6) || (eqb (bimodal_of (section_of r 6)) 0 && steps_agree r)

-- 10: there are Sections 3 and 6, and a lead at the place asked for, counted from 1
unfoldable pub has_lead : List ℕ → ℕ → Bool
has_lead r place = present r 3 && (present r 6 && (leb 1 place && leb place (lead_count_of r)))

-- the smallest of 1 to 10 that applies, and 0 where none does
unfoldable pub lead_refusal : List ℕ → ℕ → ℕ
lead_refusal r place =
    cond (opens r)
    (unless (tables_right r) 7 (unless (sections3_to6_right r) 8 (unless (agrees r) 9 (unless (has_lead r place) 10 0))))
    (open_refusal r)
