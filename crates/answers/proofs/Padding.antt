-- Padding does not change the trace (Q-1): all of it rests on one law, `left_over` of trip. Assumes nothing.
use Prim.Native.Nat.{ℕ, ◌+◌, ◌-◌, ◌*◌, ◌≤◌}
use mathlib.Core.Path.{◌≡◌, refl, sym, ap, ◌∙◌}
use mathlib.Core.Bool.{Bool, true, false, cond}
use mathlib.Core.List.{List, [], ◌∷◌, ◌++◌, append-nil, append_assoc}
use native.Mathlib.Omega.{arith}
use borrow.Author.Tests.{le-leb, lt-leb}
use lib.Dec.{leb}
use lib.IntN.{ℤ}
use lib.ListN.{length, length-append}
use Rattle.wire.specs.RuleWords.{every}
use Rattle.bits.specs.Bits.{bits_in}
use Rattle.bits.proofs.Laws.{length_bits_in, bits_in_append, small_bits_in}
use Rattle.tables.specs.declared.Structure.{Structure}
use Rattle.tables.specs.Section2.{table_right}
use Rattle.samples.specs.Differences.{differences}
use Rattle.samples.specs.Trace.{rebuilt, fault}
use Rattle.samples.proofs.Laws.{length_differences}
use Rattle.traces.specs.Rebuilding.{most_left_over, rebuild}
use Rattle.rules.specs.LeadRules.{tables_right, beat_subtracted, beat_sample_count, lead_refusal}
use Rattle.rules.proofs.Laws.{both_passed, sound}
use Rattle.leads.specs.LeadTrace.{tables_of, sample_count_at, stream_trace, residual, trace_at, read_refusal, read_trace}
use Rattle.shortest.specs.InnerRule.{plain_bits, plain_bytes}
use Rattle.shortest.proofs.Laws.{bits_small, small_bits}
use Rattle.shortest.proofs.Plain.{plain_only, length_plain_bytes}
use Rattle.trip.proofs.Traces.{left_over}
use Rattle.answers.specs.Demands.{AllKept, rows_read, StreamFor}
use Rattle.answers.specs.Padding.{most_left_in_byte, NoByteOver, SameOrPadded, same, padded, StreamsAlike, SameSection, BeatsAlike, LeadsAlike, Padding}
use Rattle.answers.proofs.Laws.{none_broken}
use Rattle.answers.proofs.Refusals.{reading, streamed}
use Rattle.answers.proofs.Fewest.{inside, samples_fit}
use Rattle.answers.proofs.Acceptance.{record_right}

-- ---- whole bytes behind a stream that has no byte over

module _ (n : ℕ) (tables : List (List Structure)) (right : every (table_right n) tables ≡ true) (order : ℕ) (xs : List ℤ) (s : List ℕ)
    (u : NoByteOver tables order xs s) (z : List ℕ) where
  -- the bits that are left over are those of its last byte and of the bytes behind it
  with_bytes : rebuild tables order (length xs) (bits_in (s ++ z))
      ≡ cond (leb (length u.stream.rest + length z * 8) most_left_over) (rebuilt xs) (fault 14)
  with_bytes =
      let b = u.stream in
      let long : length (b.rest ++ bits_in z) ≡ length b.rest + length z * 8 = simp length-append (omega (arith, length_bits_in z)) in
      rw (bits_in_append s z, ← b.whole, append_assoc b.stream b.rest (bits_in z), ← long)
      (left_over n tables right order xs b.stream u.fit b.reads (b.rest ++ bits_in z))

  -- one byte is ignored
  one_ignored : length z ≤ 1 → rebuild tables order (length xs) (bits_in (s ++ z)) ≡ rebuilt xs
  one_ignored h = with_bytes ∙ rw (le-leb (length u.stream.rest + length z * 8) most_left_over (omega (arith, u.stream.few)))

  -- two are not
  two_refused : 2 ≤ length z → rebuild tables order (length xs) (bits_in (s ++ z)) ≡ fault 14
  two_refused h = with_bytes ∙ rw (lt-leb (length u.stream.rest + length z * 8) most_left_over (omega arith))

-- nothing is behind it
none_behind : (n : ℕ) (tables : List (List Structure)) → every (table_right n) tables ≡ true → (order : ℕ) (xs : List ℤ) (s : List ℕ)
    → NoByteOver tables order xs s → rebuild tables order (length xs) (bits_in s) ≡ rebuilt xs
none_behind n tables right order xs s u = rw (append-nil s) at (one_ignored n tables right order xs s u [] (omega arith))

-- ---- without Section 2

-- no table breaks its rule
no_tables : every (table_right 0) [] ≡ true
unfolding every
no_tables = refl

-- two bytes a sample leave nothing over
two_bytes_each : (order : ℕ) (xs : List ℤ) (s : List ℕ) → length s ≡ 2 * length xs
    → rebuild [] order (length xs) (bits_in s) ≡ rebuilt xs → NoByteOver [] order xs s
unfolding plain_bits
two_bytes_each order xs s e h =
    let whole : StreamFor [] order xs (bits_in s) = record { bits = small_bits (bits_in s) (small_bits_in s); reads = h } in
    let b = inside 0 [] no_tables order xs (bits_in s) whole in
    let own = ap length (plain_only (bits_small b.stream b.reads.bits) b.reads.reads) in
    let vs = differences order xs in
    let none : length b.rest ≤ most_left_in_byte =
    omega (
      arith,
      own,
      length_bits_in (plain_bytes vs),
      length_plain_bytes vs,
      length_differences order xs,
      length_bits_in s,
      ap length b.whole,
      length-append b.stream b.rest,
      e,
    ) in
    let fit = samples_fit 0 [] no_tables order xs (bits_in s) whole in
    record { fit = fit; stream = record { bits = b.bits; stream = b.stream; rest = b.rest; whole = b.whole; reads = b.reads; few = none } }

-- ---- leads of two records

module _ (r q : List ℕ) (right : tables_right r ≡ true) (t : tables_of q ≡ tables_of r) where
  stream_same : (section count k : ℕ) → StreamsAlike r q section count k → stream_trace q section count k ≡ stream_trace r section count k
  unfolding stream_trace
  stream_same section count k d = go d.stream
    where
      go : SameOrPadded r q section count k → stream_trace q section count k ≡ stream_trace r section count k
      go (same e) = rw (t, d.order, e)
      go (padded xs b l u e) =
          let n = length (tables_of r) in
          let a = record_right r right in
          rw (t, d.order, e, ← l)
          (one_ignored n (tables_of r) a _ xs _ u (b ∷ []) (omega arith) ∙ sym (none_behind n (tables_of r) a _ xs _ u))

same_tables : (r q : List ℕ) → SameSection r q 2 → tables_of q ≡ tables_of r
unfolding tables_of
same_tables r q s = rw (s.there, s.bytes)

same_flags : (r q : List ℕ) → SameSection r q 3 → beat_subtracted q ≡ beat_subtracted r
unfolding beat_subtracted
same_flags r q s = rw (s.there, s.bytes)

same_beat_count : (r q : List ℕ) (k : ℕ) → BeatsAlike r q k → beat_sample_count q ≡ beat_sample_count r
unfolding beat_sample_count
same_beat_count r q k b = rw (b.zones.bytes, b.interval)

same_trace : (r q : List ℕ) (k : ℕ) → tables_right r ≡ true → LeadsAlike r q k → trace_at q k ≡ trace_at r k
unfolding trace_at residual
same_trace r q k right d = go (beat_subtracted r) refl
  where
    t : tables_of q ≡ tables_of r
    t = same_tables r q d.tables

    own : stream_trace q 6 (sample_count_at r k) k ≡ stream_trace r 6 (sample_count_at r k) k
    own = stream_same r q right t 6 (sample_count_at r k) k d.stream

    go : (b : Bool) → beat_subtracted r ≡ b → trace_at q k ≡ trace_at r k
    go false e = rw (same_flags r q d.leads, e, d.leads.bytes, own)
    go true e =
        let b = d.beat e in
        let beat = stream_same r q right t 5 (beat_sample_count r) k b.stream in
        rw (same_flags r q d.leads, e, same_beat_count r q k b, d.leads.bytes, b.zones.bytes, own, beat)

-- the tables of a record that keeps rows 1 to 11
tables_kept : (r : List ℕ) (place room work : ℕ) → AllKept (rows_read r place room work) → tables_right r ≡ true
unfolding read_refusal
tables_kept r place room work kept =
    let none = reading r place room work ∙ none_broken (rows_read r place room work) 0 kept in
    (sound r place (both_passed (lead_refusal r place) _ none).0).tables

same_reading : (r q : List ℕ) (place room work : ℕ) → AllKept (rows_read r place room work) → AllKept (rows_read q place room work)
    → LeadsAlike r q (place - 1) → read_trace q place room work ≡ read_trace r place room work
same_reading r q place room work a b d =
    streamed q place room work b ∙ same_trace r q (place - 1) (tables_kept r place room work a) d ∙ sym (streamed r place room work a)

pub padding : Padding
padding = record {
  left_over = λ r order xs stream rest right fit s.
      left_over (length (tables_of r)) (tables_of r) (record_right r right) order xs stream fit s rest;
  one_byte = λ r order xs s b right u. (
    none_behind (length (tables_of r)) (tables_of r) (record_right r right) order xs s u,
    one_ignored (length (tables_of r)) (tables_of r) (record_right r right) order xs s u (b ∷ []) (omega arith),
  );
  two_bytes = λ r order xs s b c right u.
      two_refused (length (tables_of r)) (tables_of r) (record_right r right) order xs s u (b ∷ (c ∷ [])) (omega arith);
  two_a_value = λ order xs s b c e h.
      let u = two_bytes_each order xs s e h in
      (one_ignored 0 [] no_tables order xs s u (b ∷ []) (omega arith), two_refused 0 [] no_tables order xs s u (b ∷ (c ∷ [])) (omega arith));
  same_trace = same_trace;
  same_reading = same_reading;
}
