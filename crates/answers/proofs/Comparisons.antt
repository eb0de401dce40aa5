-- How long a record can keep the reader busy (Q-6): the laws of the two sums beside reading, over the streams of a record. Assumes nothing.
use Prim.Native.Nat.{ℕ, zero, suc, ◌+◌, ◌-◌, ◌*◌, ◌≤◌}
use mathlib.Core.Path.{◌≡◌, refl, sym, ap, ◌∙◌}
use mathlib.Core.Bool.{Bool, true, false, cond}
use mathlib.Core.List.{List, [], ◌∷◌, ◌++◌}
use mathlib.Core.Logic.{◌⊎◌, inl, inr, ⊎_elim}
use mathlib.Core.Option.{some}
use native.Mathlib.Omega.{arith}
use borrow.Author.Tests.{leb-true}
use lib.Dec.{leb, ltb}
use lib.IntN.{ℤ, pos}
use lib.ListN.{length, get_or, drop, length-append, length-take}
use Rattle.wire.specs.Bounds.{most_structures}
use Rattle.wire.specs.Numbers.{number_at}
use Rattle.wire.specs.RuleWords.{every, are_bytes}
use Rattle.wire.proofs.Laws.{unlike}
use Rattle.wire.proofs.Every.{every_cut}
use Rattle.bits.specs.Bits.{high_first, low_first, bits_in, number_after, signed, begins}
use Rattle.bits.proofs.Laws.{length_bits_in}
use Rattle.index.proofs.Bytes.{byte_each}
use Rattle.pointers.specs.Pointers.{present, start_of, end_of, section_of}
use Rattle.tables.specs.declared.Structure.{Structure}
use Rattle.tables.specs.Structures.{structure_at, structures_at, no_structure}
use Rattle.tables.specs.Default.{code_of, valued, ones, two_values, default_table}
use Rattle.tables.specs.Section2.{is_default, table_at, after_table, tables_from, tables_in, table_of, table_right}
use Rattle.reading.specs.Reading.{Next, gave, stuck, matching, value_of, after_match, read_within, read_coded, read_next}
use Rattle.reading.specs.Compared.{compared_in, compared_after, compared_within, compared_coded, compared_next, compared_from, bits_from, compared_of, bits_read}
use Rattle.reading.proofs.Laws.{matched, compared_switch, compared_value, compared_coded_lem}
use Rattle.reading.proofs.Behind.{next_behind, compared_behind, compared_few}
use Rattle.reading.proofs.Streams.{compared_more, bits_more, compared_none, from_few}
use Rattle.samples.specs.Differences.{sample_of}
use Rattle.samples.specs.Trace.{Trace, rebuilt, fault, fits16, behind, after_sample}
use Rattle.traces.specs.Rebuilding.{after_next, most_left_over, rebuild_from, rebuild}
use Rattle.entries.specs.Sections5And6.{byte_count_of, stream_start, stream_of}
use Rattle.rules.specs.LeadRules.{tables_right, lead_count_of, beat_subtracted, beat_sample_count}
use Rattle.leads.specs.LeadTrace.{tables_of, sample_count_at, stream_trace, trace_at, read_refusal, read_trace}
use Rattle.leads.specs.LeadCompared.{stream_compared, stream_bits, over_streams, compared_at, bits_read_at}
use Rattle.leads.specs.LeadAnswers.{lead_of, lead_answer}
use Rattle.leads.proofs.Laws.{read_refused, read_on, readable, compared_own, compared_both}
use Rattle.shortest.specs.Shortest.{ReadsTo}
use Rattle.shortest.proofs.Laws.{reads_none, reads_first}
use Rattle.answers.specs.Examples.{two_tables, named_default, bytes_p3, bytes_p5}
use Rattle.answers.specs.Padding.{stream_in}
use Rattle.answers.specs.Comparisons.{most_stream_bits, streams_read, Comparisons}
use Rattle.answers.proofs.Faults.{fault_number}
use Rattle.answers.proofs.Acceptance.{record_right}

-- ---- a code and a value

place : (cs : List Structure) (bs : List ℕ) (c : Structure) → matching cs bs ≡ some c
    → (1 ≤ compared_in cs bs) × (compared_in cs bs ≤ length cs) × (get_or cs (compared_in cs bs - 1) no_structure ≡ c)
place cs bs c h =
    let m = matched cs bs c h in
    let e : compared_in cs bs - 1 ≡ m.place = omega (arith, m.counted) in
    (omega (arith, m.counted), omega (arith, m.counted, m.there), rw e m.stands)

-- where a structure is matched there are tables
some_tables : (tables : List (List Structure)) (table : ℕ) (bs : List ℕ) (c : Structure) → matching (table_of tables table) bs ≡ some c
    → 1 ≤ length tables
unfolding matching table_of
some_tables [] zero bs c h = unlike cc
some_tables [] (suc t) bs c h = unlike cc
some_tables (t ∷ ts) table bs c h = omega arith

module _ (r : List ℕ) (table : ℕ) (bs : List ℕ) (c : Structure) (right : tables_right r ≡ true)
    (m : matching (table_of (tables_of r) table) bs ≡ some c) where
  last : (c.mode ≡ 0 → ⊥) → compared_next (tables_of r) table bs ≡ compared_in (table_of (tables_of r) table) bs
  last value =
      let tables = tables_of r in
      compared_coded_lem tables (some_tables tables table bs c m) table bs
      ∙ compared_value (length tables) tables (record_right r right) table bs c m value

  switch : c.mode ≡ 0
      → compared_next (tables_of r) table bs
      ≡ compared_in (table_of (tables_of r) table) bs + compared_next (tables_of r) c.base (drop c.prefix bs)
  switch mode =
      let tables = tables_of r in
      let some = some_tables tables table bs c m in
      compared_coded_lem tables some table bs
      ∙ compared_switch (length tables) tables (record_right r right) table bs c m mode
      ∙ ap (λ (n : ℕ). compared_in (table_of tables table) bs + n) (sym (compared_coded_lem tables some c.base (drop c.prefix bs)))

-- ---- the bits read

-- of a stream for the values, with the bits z behind it
stream_sums : (n : ℕ) (tables : List (List Structure)) → every (table_right n) tables ≡ true → (z : List ℕ) (vs : List ℤ) (t : ℕ) (bs : List ℕ)
    → ReadsTo tables t bs vs
    → (bits_from tables (length vs) t (bs ++ z) ≡ length bs)
    × (compared_from tables (length vs) t (bs ++ z) ≡ compared_from tables (length vs) t bs)
unfolding bits_from compared_from
stream_sums n tables right z [] t bs reads = (omega (arith, ap length (reads_none reads refl)), refl)
stream_sums n tables right z (v ∷ vs) t bs reads =
    let f = reads_first v vs reads refl in
    let again = next_behind n tables right z t bs v f.next f.rest f.gives in
    let few = compared_few n tables right z t bs v f.next f.rest f.gives in
    let later = stream_sums n tables right z vs f.next f.rest f.later in (
      omega (
        arith,
        bits_more tables (length vs) t (bs ++ z) again,
        later.0,
        few,
        length-append bs z,
        length-append f.rest z,
      ),
      compared_more tables (length vs) t (bs ++ z) again
          ∙ rw (compared_behind n tables right z t bs v f.next f.rest f.gives, later.1)
          (sym (compared_more tables (length vs) t bs f.gives)),
    )

-- behind a sample a trace goes on
sample_on : (go_on : ℤ → Trace) (y : ℤ) (xs : List ℤ) → after_sample go_on y ≡ rebuilt xs → (ys : List ℤ) × (go_on y ≡ rebuilt ys)
unfolding after_sample
sample_on go_on y xs h = go (fits16 y) (go_on y) h
  where
    go : (b : Bool) (t : Trace) → cond b (behind y t) (fault 13) ≡ rebuilt xs → (ys : List ℤ) × (t ≡ rebuilt ys)
    go true (rebuilt ys) e = (ys, refl)
    go true (fault n) e = unlike cc
    go false t e = unlike cc

-- of bits that are rebuilt, all are read but those left over
rebuilt_bits : (tables : List (List Structure)) (order left place : ℕ) (last other : ℤ) (table : ℕ) (bs : List ℕ) (xs : List ℤ)
    → rebuild_from tables order left place last other table bs ≡ rebuilt xs → length bs ≤ bits_from tables left table bs + most_left_over
unfolding rebuild_from bits_from
rebuilt_bits tables order zero place last other table bs xs h = go (leb (length bs) most_left_over) refl h
  where
    go : (b : Bool) → leb (length bs) most_left_over ≡ b → cond b (rebuilt []) (fault 14) ≡ rebuilt xs → length bs ≤ 0 + most_left_over
    go true e g = omega (arith, leb-true (length bs) most_left_over e)
    go false e g = unlike cc
rebuilt_bits tables order (suc left) place last other table bs xs h =
    go (read_next tables table bs) refl h (λ y next rest. rebuilt_bits tables order left (place + 1) y last next rest)
  where
    go_on : ℕ → List ℕ → ℤ → Trace
    go_on next rest x = rebuild_from tables order left (place + 1) x last next rest

    go : (r : Next) → read_next tables table bs ≡ r
        → after_next (λ v next rest. after_sample (go_on next rest) (sample_of order place v last other)) r ≡ rebuilt xs
        → ((y : ℤ) (next : ℕ) (rest : List ℕ) (ys : List ℤ) → go_on next rest y ≡ rebuilt ys
        → length rest ≤ bits_from tables left next rest + most_left_over)
        → length bs ≤ bits_from tables (suc left) table bs + most_left_over
    go (gave v next rest) e g later =
        let y = sample_of order place v last other in
        let on = sample_on (go_on next rest) y xs g in
        omega (arith, bits_more tables left table bs e, later y next rest on.0 on.1)
    go stuck e g later = unlike cc

-- ---- the streams of a record

module _ (r : List ℕ) (section count k : ℕ) (right : tables_right r ≡ true) where
  few : (stream_compared r section count k ≤ most_structures * stream_bits r section count k)
      × (stream_bits r section count k ≤ length (bits_in (stream_in r section k)))
  unfolding stream_compared stream_bits compared_of bits_read
  few = from_few (length (tables_of r)) (tables_of r) (record_right r right) count 1 (bits_in (stream_in r section k))

  all_bits : (xs : List ℤ) → stream_trace r section count k ≡ rebuilt xs
      → length (bits_in (stream_in r section k)) ≤ stream_bits r section count k + most_left_over
  unfolding stream_trace rebuild stream_bits bits_read
  all_bits xs h = rebuilt_bits (tables_of r) _ count 0 (pos 0) (pos 0) 1 (bits_in (stream_in r section k)) xs h

-- two bytes say how many bytes a stream has
stream_bits_lem : (r : List ℕ) (section k : ℕ) → are_bytes r ≡ true → length (bits_in (stream_in r section k)) ≤ most_stream_bits
unfolding stream_of section_of number_at
stream_bits_lem r section k bytes =
    let s = section_of r section in
    let start = stream_start (lead_count_of r) s k in
    let own = byte_each s (every_cut (λ b. ltb b 256) (end_of r section - start_of r section) (drop (start_of r section) r)
    (every_cut (λ b. ltb b 256) (start_of r section) r bytes).1).0 in
    omega (
      arith,
      length_bits_in (stream_in r section k),
      length-take (start + byte_count_of s k - start) (drop start s),
      own (22 + 2 * k),
      own (22 + 2 * k + 1),
    )

-- ---- a lead

module _ (r : List ℕ) (k : ℕ) (right : tables_right r ≡ true) where
  few_at : compared_at r k ≤ most_structures * bits_read_at r k
  unfolding compared_at bits_read_at over_streams
  few_at = go (beat_subtracted r)
    where
      go : (b : Bool)
          → cond b (stream_compared r 5 (beat_sample_count r) k) 0 + stream_compared r 6 (sample_count_at r k) k
          ≤ most_structures * (cond b (stream_bits r 5 (beat_sample_count r) k) 0 + stream_bits r 6 (sample_count_at r k) k)
      go true = omega (arith, (few r 5 (beat_sample_count r) k right).0, (few r 6 (sample_count_at r k) k right).0)
      go false = omega (arith, (few r 6 (sample_count_at r k) k right).0)

-- where each stream has no more than so many, all streams have no more than that for each
over_most : (of : ℕ → ℕ → ℕ → ℕ) (r : List ℕ) (k most : ℕ) → ((section count : ℕ) → of section count k ≤ most)
    → over_streams of r k ≤ streams_read r * most
unfolding over_streams
over_most of r k most own = go (beat_subtracted r)
  where
    go : (b : Bool) → cond b (of 5 (beat_sample_count r) k) 0 + of 6 (sample_count_at r k) k ≤ cond b 2 1 * most
    go true = omega (arith, own 5 (beat_sample_count r), own 6 (sample_count_at r k))
    go false = omega (arith, own 6 (sample_count_at r k))

most_bits : (r : List ℕ) (k : ℕ) → tables_right r ≡ true → are_bytes r ≡ true → bits_read_at r k ≤ streams_read r * most_stream_bits
unfolding bits_read_at
most_bits r k right bytes =
    over_most (stream_bits r) r k most_stream_bits
    (λ section count. omega (arith, (few r section count k right).1, stream_bits_lem r section k bytes))

-- without Section 2 there are no tables
none_at_lem : (r : List ℕ) (k : ℕ) → present r 2 ≡ false → compared_at r k ≡ 0
unfolding compared_at stream_compared compared_of tables_of
none_at_lem r k absent =
    let own : (section count : ℕ) → stream_compared r section count k ≤ 0 =
    λ section count. rw absent (omega (arith, compared_none count 1 (bits_in (stream_in r section k)))) in
    omega (arith, over_most (stream_compared r) r k 0 own)

-- ---- what reading a lead answers

module _ (r : List ℕ) (place room work : ℕ) where
  -- none of 1 to 11 applies, and so many structures are answered; or none is
  Answered : Type 0
  Answered =
      ((lead_answer r place room work).compared ≡ 0)
      ⊎ ((read_refusal r place room work ≡ 0) × ((lead_answer r place room work).compared ≡ compared_at r (place - 1)))

  answered : Answered
  unfolding Answered
  answered = go (read_refusal r place room work) refl
    where
      of_trace : (t : Trace) → ((lead_of r (place - 1) t).compared ≡ 0) ⊎ ((lead_of r (place - 1) t).compared ≡ compared_at r (place - 1))
      of_trace (rebuilt xs) = inr refl
      of_trace (fault n) = inl refl

      go : (n : ℕ) → read_refusal r place room work ≡ n → Answered
      go zero e = ⊎_elim inl (λ same. inr (e, same)) (of_trace (read_trace r place room work))
      go (suc n) e = inl (ap (λ (t : Trace). (lead_of r (place - 1) t).compared) (read_refused r place room work (suc n) (sym e) (λ z. omega arith)))

  accepted : (lead_answer r place room work).refusal ≡ 0 → (lead_answer r place room work).compared ≡ compared_at r (place - 1)
  accepted h = go (read_refusal r place room work) refl
    where
      of_trace : (t : Trace) → trace_at r (place - 1) ≡ t → (lead_of r (place - 1) t).refusal ≡ 0
          → (lead_of r (place - 1) t).compared ≡ compared_at r (place - 1)
      of_trace (rebuilt xs) e z = refl
      of_trace (fault n) e z =
          absurd (⊎_elim (λ a. omega (arith, a, z)) (⊎_elim (λ a. omega (arith, a, z)) (λ a. omega (arith, a, z))) (fault_number r (place - 1) n e))

      go : (n : ℕ) → read_refusal r place room work ≡ n → (lead_answer r place room work).compared ≡ compared_at r (place - 1)
      go zero e =
          let on = read_on r place room work 0 (sym e) refl in
          rw on (of_trace (trace_at r (place - 1)) refl (rw on at h))
      go (suc n) e = absurd (omega (arith, rw (read_refused r place room work (suc n) (sym e) (λ z. omega arith)) at h))

  refused : (n : ℕ) → (lead_answer r place room work).refusal ≡ suc n → (lead_answer r place room work).compared ≡ 0
  refused n h = go (read_trace r place room work) h
    where
      go : (t : Trace) → (lead_of r (place - 1) t).refusal ≡ suc n → (lead_of r (place - 1) t).compared ≡ 0
      go (rebuilt xs) e = absurd (omega (arith, e))
      go (fault number) e = refl

  at_most : (lead_answer r place room work).compared ≤ most_structures * bits_read_at r (place - 1)
  unfolding Answered
  at_most =
      ⊎_elim (λ none. omega (arith, none))
      (λ a. omega (arith, a.1, few_at r (place - 1) (readable r place room work a.0).1.tables))
      answered

  busiest : are_bytes r ≡ true → (lead_answer r place room work).compared ≤ streams_read r * (most_structures * most_stream_bits)
  unfolding Answered
  busiest bytes =
      ⊎_elim (λ none. omega (arith, none))
      (λ a.
      let right = (readable r place room work a.0).1.tables in
      let own = few_at r (place - 1) right in
      let most = most_bits r (place - 1) right bytes in
      omega (arith, a.1, own, most))
      answered

  no_tables : present r 2 ≡ false → (lead_answer r place room work).compared ≡ 0
  unfolding Answered
  no_tables absent = ⊎_elim (λ none. none) (λ a. a.1 ∙ none_at_lem r (place - 1) absent) answered

pub comparisons : Comparisons
unfolding stream_compared compared_of bits_read bits_from compared_from compared_next compared_coded compared_within compared_after compared_in two_tables named_default bytes_p3 bytes_p5 tables_in is_default tables_from table_at after_table structures_at structure_at number_at begins low_first high_first bits_in number_after signed default_table valued code_of ones two_values read_next read_coded read_within after_match value_of matching table_of
comparisons = record {
  place = place;
  last = last;
  switch = switch;
  stream = λ r section count k. refl;
  values = λ r left table next v bs rest read. compared_more (tables_of r) left table bs read;
  without_beat = compared_own;
  with_beat = compared_both;
  accepted = accepted;
  refused = refused;
  no_tables = no_tables;
  of_a_stream = λ r section count k right. (few r section count k right).0;
  at_most = at_most;
  left_over = λ r vs stream rest right s.
      stream_sums (length (tables_of r)) (tables_of r) (record_right r right) rest vs 1 stream s.reads;
  all_bits = λ r section count k xs right h. ((few r section count k right).1, all_bits r section count k right xs h);
  stream_bits_lem = stream_bits_lem;
  busiest = busiest;
  two_tables_lem = (refl, refl);
  default_table_lem = (refl, refl);
}
