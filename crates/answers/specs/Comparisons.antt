-- How long a record can keep the reader busy (Q-6): how many structures of code tables are compared while a lead is read, and at most how
-- many. r is the bytes of a record, `place` a lead's place in it, from 1, and k a lead, counted from 0; room and work are how many elements
-- are lent.
use Rattle.std.specs.Prelude.{ℕ, suc, ◌+◌, ◌-◌, ◌*◌, ◌≤◌, ◌≡◌, true, false, cond, List, ◌++◌, ℤ, length, get_or, drop}
use Rattle.std.proofs.Math.Option.{some}
use Rattle.wire.specs.Bounds.{most_structures, most_stream_bytes}
use Rattle.wire.specs.RuleWords.{are_bytes}
use Rattle.bits.specs.Bits.{bits_in}
use Rattle.pointers.specs.Pointers.{present}
use Rattle.tables.specs.declared.Structure.{Structure}
use Rattle.tables.specs.Structures.{no_structure}
use Rattle.tables.specs.Section2.{table_of, tables_in}
use Rattle.reading.specs.Reading.{gave, matching, read_next}
use Rattle.reading.specs.Compared.{compared_in, compared_next, compared_from, compared_of, bits_read}
use Rattle.samples.specs.Trace.{rebuilt}
use Rattle.traces.specs.Rebuilding.{most_left_over}
use Rattle.rules.specs.LeadRules.{tables_right, beat_subtracted, beat_sample_count}
use Rattle.leads.specs.LeadTrace.{tables_of, sample_count_at, stream_trace}
use Rattle.leads.specs.LeadCompared.{stream_compared, stream_bits, compared_at, bits_read_at}
use Rattle.leads.specs.LeadAnswers.{lead_answer}
use Rattle.shortest.specs.Shortest.{Stream}
use Rattle.answers.specs.Examples.{two_tables, named_default, bytes_p3, bytes_p5}
use Rattle.answers.specs.Padding.{stream_in}

-- the bits of the longest stream, of 65,535 bytes: 524,280
abbrev pub most_stream_bits : ℕ
most_stream_bits = 8 * most_stream_bytes

-- how many streams reading a lead of r takes
abbrev pub streams_read : List ℕ → ℕ
streams_read r = cond (beat_subtracted r) 2 1

pub record Comparisons : Type 0 where
  -- For a code, the number is the place of the matched structure in its table, from 1
  pub place : (cs : List Structure) (bs : List ℕ) (c : Structure) → matching cs bs ≡ some c
      → (1 ≤ compared_in cs bs) × (compared_in cs bs ≤ length cs) × (get_or cs (compared_in cs bs - 1) no_structure ≡ c)
  -- For a value, it is the sum over its codes, by a record's own tables: a value's code is the last, and a switch counts with those behind it
  pub last : (r : List ℕ) (table : ℕ) (bs : List ℕ) (c : Structure) → tables_right r ≡ true → matching (table_of (tables_of r) table) bs ≡ some c
      → (c.mode ≡ 0 → ⊥) → compared_next (tables_of r) table bs ≡ compared_in (table_of (tables_of r) table) bs
  pub switch : (r : List ℕ) (table : ℕ) (bs : List ℕ) (c : Structure) → tables_right r ≡ true → matching (table_of (tables_of r) table) bs ≡ some c
      → c.mode ≡ 0
      → compared_next (tables_of r) table bs
      ≡ compared_in (table_of (tables_of r) table) bs + compared_next (tables_of r) c.base (drop c.prefix bs)
  -- For a stream, it is the sum over its values
  pub stream : (r : List ℕ) (section count k : ℕ)
      → stream_compared r section count k ≡ compared_from (tables_of r) count 1 (bits_in (stream_in r section k))
  pub values : (r : List ℕ) (left table next : ℕ) (v : ℤ) (bs rest : List ℕ) → read_next (tables_of r) table bs ≡ gave v next rest
      → compared_from (tables_of r) (suc left) table bs ≡ compared_next (tables_of r) table bs + compared_from (tables_of r) left next rest
  -- For a lead, it is that of its stream and, where a beat was subtracted, that of the beat's, once
  pub without_beat : (r : List ℕ) (k : ℕ) → beat_subtracted r ≡ false → compared_at r k ≡ stream_compared r 6 (sample_count_at r k) k
  pub with_beat : (r : List ℕ) (k : ℕ) → beat_subtracted r ≡ true
      → compared_at r k ≡ stream_compared r 5 (beat_sample_count r) k + stream_compared r 6 (sample_count_at r k) k
  -- Reading a lead reports just that where it is accepted, and none where it is refused; without Section 2 it reports 0
  pub accepted : (r : List ℕ) (place room work : ℕ) → (lead_answer r place room work).refusal ≡ 0
      → (lead_answer r place room work).compared ≡ compared_at r (place - 1)
  pub refused : (r : List ℕ) (place room work n : ℕ) → (lead_answer r place room work).refusal ≡ suc n
      → (lead_answer r place room work).compared ≡ 0
  pub no_tables : (r : List ℕ) (place room work : ℕ) → present r 2 ≡ false → (lead_answer r place room work).compared ≡ 0
  -- It is at most 64 times the bits read: for each stream, whatever its bits are, and for what is answered of any record
  pub of_a_stream : (r : List ℕ) (section count k : ℕ) → tables_right r ≡ true
      → stream_compared r section count k ≤ most_structures * stream_bits r section count k
  pub at_most : (r : List ℕ) (place room work : ℕ) → (lead_answer r place room work).compared ≤ most_structures * bits_read_at r (place - 1)
  -- The bits read are those of the codes: bits behind a stream for the values do not count, and do not change the sum. Of a stream that is
  -- rebuilt they are all but at most 15
  pub left_over : (r : List ℕ) (vs : List ℤ) (stream rest : List ℕ) → tables_right r ≡ true → Stream (tables_of r) vs stream
      → (bits_read (tables_of r) (length vs) (stream ++ rest) ≡ length stream)
      × (compared_of (tables_of r) (length vs) (stream ++ rest) ≡ compared_of (tables_of r) (length vs) stream)
  pub all_bits : (r : List ℕ) (section count k : ℕ) (xs : List ℤ) → tables_right r ≡ true → stream_trace r section count k ≡ rebuilt xs
      → (stream_bits r section count k ≤ length (bits_in (stream_in r section k)))
      × (length (bits_in (stream_in r section k)) ≤ stream_bits r section count k + most_left_over)
  -- A stream has no more than 524,280 bits, since two bytes say how many bytes it has. So no lead that is read costs more than 64 times
  -- 524,280 comparisons for each of its streams, of which there are two where a beat was subtracted. What a refused lead cost is not said
  pub stream_bits_lem : (r : List ℕ) (section k : ℕ) → are_bytes r ≡ true → length (bits_in (stream_in r section k)) ≤ most_stream_bits
  pub busiest : (r : List ℕ) (place room work : ℕ) → are_bytes r ≡ true
      → (lead_answer r place room work).compared ≤ streams_read r * (most_structures * most_stream_bits)
  -- By computation, of the whole bytes: the 20 values of P5, with two switches, take 67 comparisons and 92 bits; the 7 values of P3, by the
  -- default table, 77 comparisons and 71 bits
  pub two_tables_lem : (compared_of (tables_in two_tables 0) 20 (bits_in bytes_p5) ≡ 67) × (bits_read (tables_in two_tables 0) 20 (bits_in bytes_p5) ≡ 92)
  pub default_table_lem : (compared_of (tables_in named_default 0) 7 (bits_in bytes_p3) ≡ 77) × (bits_read (tables_in named_default 0) 7 (bits_in bytes_p3) ≡ 71)
