-- Reading a lead (01, Leads and samples; 01, Refusal numbers 11 to 14), over the bytes r of a record; lead k counts from 0 here.
use Rattle.std.specs.Prelude.{ℕ, ◌-◌, Bool, not, ◌&&◌, ◌||◌, cond, List, [], leb, eqb}
use Rattle.wire.specs.RuleWords.{unless}
use Rattle.pointers.specs.Pointers.{data_at, present, section_of}
use Rattle.bits.specs.Bits.{bits_in}
use Rattle.tables.specs.declared.Structure.{Structure}
use Rattle.tables.specs.Section2.{tables_in}
use Rattle.entries.specs.Section3.{first_sample, sample_count}
use Rattle.entries.specs.Sections5And6.{order_of, stream_of}
use Rattle.rules.specs.LeadRules.{lead_count_of, beat_subtracted, beat_sample_count, lead_refusal}
use Rattle.samples.specs.Trace.{Trace, fault, after_trace}
use Rattle.traces.specs.Rebuilding.{rebuild}
use Rattle.beats.specs.Sums.{add_beat}

-- the record's code tables; none without Section 2
unfoldable pub tables_of : List ℕ → List (List Structure)
tables_of r = cond (present r 2) (tables_in (section_of r 2) data_at) []

-- what lead k's stream in Section 5 or 6 is rebuilt to, by that section's difference order
unfoldable pub stream_trace : List ℕ → ℕ → ℕ → ℕ → Trace
stream_trace r section count k =
    rebuild (tables_of r) (order_of (section_of r section)) count (bits_in (stream_of (lead_count_of r) (section_of r section) k))

-- how many samples lead k has
abbrev pub sample_count_at : List ℕ → ℕ → ℕ
sample_count_at r k = sample_count (section_of r 3) k

-- the residual, or the whole lead where no beat was subtracted
unfoldable pub residual : List ℕ → ℕ → Trace
residual r k = stream_trace r 6 (sample_count_at r k) k

-- with no beat subtracted, the residual alone; else the beat is read first, the residual after it, and
-- only then is the one added to the other
unfoldable pub trace_at : List ℕ → ℕ → Trace
trace_at r k =
    cond (beat_subtracted r)
    (after_trace (stream_trace r 5 (beat_sample_count r) k)
    (λ beat. after_trace (residual r k) (λ xs. add_beat (section_of r 4) beat (first_sample (section_of r 3) k) xs)))
    (residual r k)

-- 11: the output has room for the lead's samples, and the work space, where a beat was subtracted, for the beat's
unfoldable pub room_right : List ℕ → ℕ → ℕ → ℕ → Bool
room_right r k room work = leb (sample_count_at r k) room && (not (beat_subtracted r) || leb (beat_sample_count r) work)

-- the smallest of 1 to 11 that applies, and 0 where none does
unfoldable pub read_refusal : List ℕ → ℕ → ℕ → ℕ → ℕ
read_refusal r place room work =
    cond (eqb (lead_refusal r place) 0) (unless (room_right r (place - 1) room work) 11 0) (lead_refusal r place)

-- the result of reading the lead at a place, where this much room and work space are lent
unfoldable pub read_trace : List ℕ → ℕ → ℕ → ℕ → Trace
read_trace r place room work =
    cond (eqb (read_refusal r place room work) 0) (trace_at r (place - 1)) (fault (read_refusal r place room work))
