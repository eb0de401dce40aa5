-- Padding does not change the trace (Q-1): a maker's carts pad each lead to an even number of bytes. A lead's stream and a beat's are read
-- by one definition, `rebuild`, so that what is said of it here holds of both. r and q are the bytes of two records, k is a lead, counted
-- from 0, xs are samples, s the bytes of a stream for them, and b and c any bytes.
use Rattle.std.specs.Prelude.{ℕ, ◌-◌, ◌*◌, ◌≡◌, true, cond, List, [], ◌∷◌, ◌++◌, leb, ℤ, length}
use Rattle.wire.specs.RuleWords.{every}
use Rattle.bits.specs.Bits.{bits_in}
use Rattle.pointers.specs.Pointers.{present, section_of}
use Rattle.tables.specs.declared.Structure.{Structure}
use Rattle.samples.specs.Differences.{differences}
use Rattle.samples.specs.Trace.{rebuilt, fault, fits16}
use Rattle.traces.specs.Rebuilding.{most_left_over, rebuild}
use Rattle.entries.specs.Sections5And6.{interval_of, order_of, stream_of}
use Rattle.rules.specs.LeadRules.{tables_right, lead_count_of, beat_subtracted, beat_sample_count}
use Rattle.leads.specs.LeadTrace.{tables_of, sample_count_at, trace_at, read_trace}
use Rattle.shortest.specs.Shortest.{Stream}
use Rattle.answers.specs.Demands.{AllKept, rows_read, BeginsWithStream}

-- how many bits may be left of the byte in which a stream ends
abbrev pub most_left_in_byte : ℕ
most_left_in_byte = 7

-- a stream for these samples of 16 bits, with no byte over: fewer than 8 bits follow the code of the last sample
pub record NoByteOver (tables : List (List Structure)) (order : ℕ) (xs : List ℤ) (s : List ℕ) : Type 0 where
  pub fit : every fits16 xs ≡ true
  pub stream : BeginsWithStream most_left_in_byte tables order xs (bits_in s)

-- ---- leads of two records that are alike but for padding, in all that a trace depends on

-- the bytes of lead k's stream in Section 5 or 6
abbrev pub stream_in : List ℕ → ℕ → ℕ → List ℕ
stream_in r section k = stream_of (lead_count_of r) (section_of r section) k

-- q has the same stream as r; or that of r has no byte over for `count` samples, and q has it with one byte behind it
pub data SameOrPadded (r q : List ℕ) (section count k : ℕ) : Type 0 where
  same : stream_in q section k ≡ stream_in r section k → SameOrPadded r q section count k
  padded : (xs : List ℤ) (b : ℕ) → length xs ≡ count → NoByteOver (tables_of r) (order_of (section_of r section)) xs (stream_in r section k)
      → stream_in q section k ≡ stream_in r section k ++ (b ∷ []) → SameOrPadded r q section count k

-- the streams of lead k in Section 5 or 6 are alike, and have one difference order
pub record StreamsAlike (r q : List ℕ) (section count k : ℕ) : Type 0 where
  pub order : order_of (section_of q section) ≡ order_of (section_of r section)
  pub stream : SameOrPadded r q section count k

-- a section is the same in both records, or absent in both
pub record SameSection (r q : List ℕ) (id : ℕ) : Type 0 where
  pub there : present q id ≡ present r id
  pub bytes : section_of q id ≡ section_of r id

-- the beats of lead k are alike, and so are their zones
pub record BeatsAlike (r q : List ℕ) (k : ℕ) : Type 0 where
  pub zones : SameSection r q 4
  pub interval : interval_of (section_of q 5) ≡ interval_of (section_of r 5)
  pub stream : StreamsAlike r q 5 (beat_sample_count r) k

-- lead k is alike in both records
pub record LeadsAlike (r q : List ℕ) (k : ℕ) : Type 0 where
  pub tables : SameSection r q 2
  pub leads : SameSection r q 3
  pub stream : StreamsAlike r q 6 (sample_count_at r k) k
  pub beat : beat_subtracted r ≡ true → BeatsAlike r q k

-- ---- the theorem

pub record Padding : Type 0 where
  -- Bits behind a stream for the samples, by a record's own tables: up to 15 are ignored, whatever they hold; 16 or more give 14
  pub left_over : (r : List ℕ) (order : ℕ) (xs : List ℤ) (stream rest : List ℕ) → tables_right r ≡ true → every fits16 xs ≡ true
      → Stream (tables_of r) (differences order xs) stream
      → rebuild (tables_of r) order (length xs) (stream ++ rest) ≡ cond (leb (length rest) most_left_over) (rebuilt xs) (fault 14)
  -- A stream with no byte over is rebuilt to its samples, and to the same samples with any one byte behind it; two bytes give 14
  pub one_byte : (r : List ℕ) (order : ℕ) (xs : List ℤ) (s : List ℕ) (b : ℕ) → tables_right r ≡ true → NoByteOver (tables_of r) order xs s
      → (rebuild (tables_of r) order (length xs) (bits_in s) ≡ rebuilt xs)
      × (rebuild (tables_of r) order (length xs) (bits_in (s ++ (b ∷ []))) ≡ rebuilt xs)
  pub two_bytes : (r : List ℕ) (order : ℕ) (xs : List ℤ) (s : List ℕ) (b c : ℕ) → tables_right r ≡ true → NoByteOver (tables_of r) order xs s
      → rebuild (tables_of r) order (length xs) (bits_in (s ++ (b ∷ (c ∷ [])))) ≡ fault 14
  -- Without Section 2 a value has two bytes: a lead with one byte over is read to the same samples, and with two it gives 14
  pub two_a_value : (order : ℕ) (xs : List ℤ) (s : List ℕ) (b c : ℕ) → length s ≡ 2 * length xs
      → rebuild [] order (length xs) (bits_in s) ≡ rebuilt xs
      → (rebuild [] order (length xs) (bits_in (s ++ (b ∷ []))) ≡ rebuilt xs)
      × (rebuild [] order (length xs) (bits_in (s ++ (b ∷ (c ∷ [])))) ≡ fault 14)
  -- Leads of two records that differ in padding alone, of their own streams or of their beats', have one trace: the same samples, or the
  -- same fault
  pub same_trace : (r q : List ℕ) (k : ℕ) → tables_right r ≡ true → LeadsAlike r q k → trace_at q k ≡ trace_at r k
  -- So reading them gives one result where both records keep rows 1 to 11
  pub same_reading : (r q : List ℕ) (place room work : ℕ) → AllKept (rows_read r place room work) → AllKept (rows_read q place room work)
      → LeadsAlike r q (place - 1) → read_trace q place room work ≡ read_trace r place room work
