-- The round trip (the second demand): what the writer accepts and writes, the reader gives back. Assumes nothing.
use Prim.Native.Nat.{ℕ, ◌+◌, ◌-◌, ◌%◌, ◌≤◌, ◌<◌}
use mathlib.Core.Path.{◌≡◌, refl, ◌∙◌}
use mathlib.Core.Bool.{Bool, true, false, not, ◌||◌, cond, and-false}
use mathlib.Core.List.{List, [], map}
use mathlib.Core.Logic.{◌⊎◌, inl, inr}
use mathlib.Core.Option.{Option, some}
use native.Mathlib.Omega.{arith}
use borrow.Author.Tests.{le-leb, lt-leb, eq-eqb}
use lib.Dec.{leb, eqb}
use lib.ListN.{length, get_or}
use Rattle.wire.specs.Numbers.{part}
use Rattle.std.specs.Prelude.{Option as Answer, Some, None}
use Rattle.header.specs.declared.Field.{Field}
use Rattle.header.specs.Fields.{fields_from, with_tag, occurring, shown_bytes}
use Rattle.header.specs.Header.{section1_right}
use Rattle.header.proofs.Laws.{found_within}
use Rattle.header.proofs.Moved.{moved_step, fields_moved, mark_kept, occurring_there}
use Rattle.pointers.specs.Pointers.{present, start_of, section_of}
use Rattle.record.specs.Opening.{open_refusal, opens}
use Rattle.fields.specs.Lookup.{place_found, field_place, refusal_of, part_bytes}
use Rattle.fields.proofs.Laws.{place_opened}
use Rattle.tables.specs.Section2.{tables_in, section2_right}
use Rattle.tables.proofs.Moved.{tables_there, section2_moved}
use Rattle.entries.specs.Section3.{section3_right}
use Rattle.entries.specs.Sections5And6.{byte_count_of, stream_of, section6_right}
use Rattle.rules.specs.LeadRules.{tables_right, lead_count_of, beat_subtracted, beat_right, section6_kept, sections3_to6_right, steps_agree, agrees, has_lead, lead_refusal}
use Rattle.samples.specs.Trace.{rebuilt}
use Rattle.leads.specs.LeadTrace.{tables_of, stream_trace, sample_count_at, residual, trace_at, room_right, read_refusal, read_trace}
use Rattle.leads.specs.LeadCompared.{compared_at}
use Rattle.leads.specs.LeadAnswers.{lead_answer, entry_answer}
use Rattle.encode.specs.Encoding.{tables_given, tables_given_right}
use Rattle.layout.specs.Layout.{leads_data, streams_data, record_bytes}
use Rattle.compose.specs.Writing.{Job, job_right, cut, SearchFindsAll, packed_all, all_short, record_of}
use Rattle.trip.specs.GivenBack.{JobFits, GivenBack, behind_header, samples_of}
use Rattle.trip.proofs.Traces.{stream_back}
use Rattle.wire.proofs.Places.{Stands, stands_part, stands_cut, stands_inner}
use Rattle.trip.proofs.Placed.{Placed}
use Rattle.trip.proofs.Opened as O
use Rattle.trip.proofs.Entries as E
use Rattle.trip.proofs.Streams as S
use Rattle.trip.proofs.Compose.{Right, job_right_lem, given_right, length_cut, cut_count, cut_fits, found_length, found_at}

-- ---- fields

-- Section 1 is placed in a record that opens
module _ (r : List ℕ) (d : List ℕ) (opened : open_refusal r ≡ 0) (p : Placed r 1 d) (right : section1_right 0 d 0 ≡ true) where
  abbrev at : ℕ
  at = start_of r 1

  -- its data
  data_there : Stands r (at + 16) d
  data_there = stands_inner p.there p.holds.stands

  -- a field is shown as it was given
  field_shown : (tag n : ℕ) (step : Answer Field) → occurring n (with_tag tag (fields_from d 0)) ≡ step
      → (refusal_of (field_place r tag n) ≡ refusal_of (place_found 0 step)) × (part_bytes r (field_place r tag n) ≡ shown_bytes d step)
  unfolding field_place
  field_shown tag n step e =
      let place = place_found at (occurring n (with_tag tag (fields_from (section_of r 1) 16))) in
      rw (place_opened r place _ opened, occurring_there p.holds.moved right n tag, e) (go step e)
    where
      go : (s : Answer Field) → occurring n (with_tag tag (fields_from d 0)) ≡ s
          → (refusal_of (place_found at (moved_step s)) ≡ refusal_of (place_found 0 s)) × (part_bytes r (place_found at (moved_step s)) ≡ shown_bytes d s)
      go None e = (refl, refl)
      go (Some f) e =
          let w = found_within n tag d 0 f e in
          let a : at + (16 + f.start) ≡ at + 16 + f.start = omega arith in
          let b : at + 16 + f.start + (16 + f.end - (16 + f.start)) ≡ at + 16 + f.end = omega (arith, w.order) in
          (refl, rw (a, b) (stands_cut data_there f.start f.end w.order w.end))

  -- Section 1's data are those given
  section1_there : part (section_of r 1) 16 (16 + length d) ≡ d
  section1_there = stands_part p.holds.stands

  -- and a walk meets the fields in their order
  walk_there : fields_from (section_of r 1) 16 ≡ map behind_header (fields_from d 0)
  walk_there = fields_moved p.holds.moved (mark_kept p.holds.moved right)

-- ---- leads

module _ (j : Job) (founds : List (Option (List ℕ))) (streams : List (List ℕ)) (bytes : JobFits j) (asked : job_right j ≡ true)
    (one : section1_right 0 j.section1 0 ≡ true) (two : tables_given_right j.section2 ≡ true)
    (found : SearchFindsAll j.section2 j.order (cut j.counts j.samples) founds) (made : packed_all founds ≡ some streams)
    (short : all_short streams ≡ true)
    (small : length
    (record_bytes j.version j.section1 j.section2 (leads_data j.flags j.firsts j.counts j.ids)
    (streams_data j.step j.interval j.order streams)) ≤ 1048576) where
  -- the data of Sections 3 and 6, and the record
  abbrev d3 : List ℕ
  d3 = leads_data j.flags j.firsts j.counts j.ids

  abbrev d6 : List ℕ
  d6 = streams_data j.step j.interval j.order streams

  abbrev r : List ℕ
  r = record_bytes j.version j.section1 j.section2 d3 d6

  abbrev n : ℕ
  n = length j.counts

  right : Right j
  right = job_right_lem j asked

  as_many : length streams ≡ n
  as_many = found_length j.section2 j.order streams found made ∙ length_cut j.counts j.samples

  -- its sections
  placed2 : eqb (length j.section2) 0 ≡ false → Placed r 2 j.section2
  placed2 e = O.section2_placed j.version j.section1 j.section2 d3 d6 small e

  absent2 : eqb (length j.section2) 0 ≡ true → present r 2 ≡ false
  absent2 e = O.section2_absent j.version j.section1 j.section2 d3 d6 small e

  placed3 : Placed r 3 d3
  placed3 = O.section3_placed j.version j.section1 j.section2 d3 d6 small

  placed6 : Placed r 6 d6
  placed6 = O.section6_placed j.version j.section1 j.section2 d3 d6 small

  three : E.Leads (section_of r 3) j.flags j.firsts j.counts j.ids
  three = record { holds = placed3.holds; all = right.firsts; named = right.ids; asked = right.leads }

  six : S.Streams (section_of r 6) j.step j.interval j.order streams
  six = record { holds = placed6.holds; short = short; small = (bytes.step, bytes.interval) }

  -- what they say
  leads_there : lead_count_of r ≡ n
  leads_there = E.leads_count three

  no_beat : beat_subtracted r ≡ false
  unfolding beat_subtracted
  no_beat = rw placed3.present (E.leads_whole three)

  section6_kept_lem : section6_right (lead_count_of r) (section_of r 6) ≡ true
  section6_kept_lem =
      rw (leads_there, ← as_many) (S.streams_kept six right.step right.interval right.order)

  section3_kept_lem : section3_right (section_of r 3) ≡ true
  section3_kept_lem = E.leads_kept three right.some right.most

  -- rules 7 to 10
  tables_kept : tables_right r ≡ true
  unfolding tables_right tables_given_right
  tables_kept = go (eqb (length j.section2) 0) refl two
    where
      go : (b : Bool) → eqb (length j.section2) 0 ≡ b → b || section2_right 0 j.section2 0 ≡ true
          → not (present r 2) || section2_right 1 (section_of r 2) 16 ≡ true
      go true e g = rw (absent2 e)
      go false e g = rw (placed2 e).present (section2_moved (placed2 e).holds.moved g)

  leads_kept : sections3_to6_right r ≡ true
  unfolding sections3_to6_right beat_right section6_kept
  leads_kept = rw (placed3.present, section3_kept_lem, no_beat, placed6.present, section6_kept_lem)

  agrees_kept : agrees r ≡ true
  unfolding agrees steps_agree
  agrees_kept = rw (placed6.present, S.streams_bimodal six, no_beat)

  -- the reader's tables are the writer's
  tables_same : tables_of r ≡ tables_given j.section2
  unfolding tables_of tables_given
  tables_same = go (eqb (length j.section2) 0) refl
    where
      go : (b : Bool) → eqb (length j.section2) 0 ≡ b
          → cond (present r 2) (tables_in (section_of r 2) 16) [] ≡ cond b [] (tables_in j.section2 0)
      go true e = rw (absent2 e)
      go false e = rw (placed2 e).present (tables_there (placed2 e).holds.moved)

  opened : open_refusal r ≡ 0
  opened = O.opens_written j.version j.section1 j.section2 d3 d6 small one

  -- there are as many leads as the job has
  no_lead : (place : ℕ) → (place ≡ 0) ⊎ (n < place) → lead_refusal r place ≡ 10
  unfolding lead_refusal opens has_lead
  no_lead place (inl e) = rw (eq-eqb (open_refusal r) 0 opened, tables_kept, leads_kept, agrees_kept, placed3.present, placed6.present, e)
  no_lead place (inr l) =
      rw (eq-eqb (open_refusal r) 0 opened, tables_kept, leads_kept, agrees_kept, placed3.present, placed6.present, leads_there)
      (rw (lt-leb place n l, and-false (leb 1 place)))

  no_other : (place room work : ℕ) → (place ≡ 0) ⊎ (n < place)
      → ((lead_answer r place room work).refusal ≡ 10) × ((entry_answer r place).refusal ≡ 10)
  unfolding read_trace read_refusal
  no_other place room work h = rw (no_lead place h) (refl, refl)

  module _ (k : ℕ) (there : k < n) where
    lead_there : has_lead r (k + 1) ≡ true
    unfolding has_lead
    lead_there = rw (placed3.present, placed6.present, leads_there, le-leb 1 (k + 1) (omega arith), le-leb (k + 1) n (omega arith))

    lead_accepted : lead_refusal r (k + 1) ≡ 0
    unfolding lead_refusal opens
    lead_accepted = rw (eq-eqb (open_refusal r) 0 opened, tables_kept, leads_kept, agrees_kept, lead_there)

    entry_there : entry_answer r (k + 1)
        ≡ record {
          refusal = 0;
          id = get_or j.ids k 0;
          flags = j.flags - j.flags % 2;
          order = j.order;
          step = j.step;
          interval = j.interval;
          first = get_or j.firsts k 0;
          last = get_or j.firsts k 0 + get_or j.counts k 0 - 1;
          leads = n;
          bytes = byte_count_of (section_of r 6) k;
        }
    entry_there =
        let e : k + 1 - 1 ≡ k = omega arith in
        rw (
          lead_accepted,
          e,
          leads_there,
          E.lead_id_lem three k there,
          E.leads_flags three,
          S.streams_order six,
          S.streams_step six,
          S.streams_interval six,
          E.lead_first three k there,
          E.lead_last three k there,
        )

    count_there : sample_count_at r k ≡ get_or j.counts k 0
    count_there = E.lead_count_lem three k there

    -- the stream is rebuilt to the samples
    stream_there : stream_of (lead_count_of r) (section_of r 6) k ≡ get_or streams k []
    stream_there = rw (leads_there, ← as_many) (S.streams_stream six k (omega (arith, as_many)))

    samples_there : residual r k ≡ rebuilt (samples_of j k)
    unfolding residual stream_trace
    samples_there =
        let xs = samples_of j k in
        let l = found_at j.section2 j.order streams found made k (omega (arith, length_cut j.counts j.samples)) in
        let g = given_right j.section2 two in
        let o = S.streams_order six in
        let c = cut_count j.counts j.samples right.total k there in
        let fit = cut_fits j.counts j.samples bytes.samples k in
        let back = stream_back (length (tables_given j.section2)) (tables_given j.section2) g j.order xs l.bits fit l.reads in
        rw (stream_there, count_there, tables_same, o, l.bytes, ← c) back

    -- with room for them
    module _ (room work : ℕ) (enough : get_or j.counts k 0 ≤ room) where
      read_accepted : read_refusal r (k + 1) room work ≡ 0
      unfolding read_refusal room_right
      read_accepted =
          let e : k + 1 - 1 ≡ k = omega arith in
          rw (lead_accepted, e, count_there, le-leb (get_or j.counts k 0) room enough, no_beat)

      lead_read : read_trace r (k + 1) room work ≡ rebuilt (samples_of j k)
      unfolding read_trace trace_at
      lead_read = let e : k + 1 - 1 ≡ k = omega arith in rw (read_accepted, e, no_beat) samples_there

      lead_answered : lead_answer r (k + 1) room work
          ≡ record {
            refusal = 0;
            id = get_or j.ids k 0;
            flags = j.flags - j.flags % 2;
            step = j.step;
            interval = j.interval;
            first = get_or j.firsts k 0;
            count = get_or j.counts k 0;
            compared = compared_at r k;
          }
      lead_answered =
          let e : k + 1 - 1 ≡ k = omega arith in
          rw (
            lead_read,
            e,
            E.lead_id_lem three k there,
            E.leads_flags three,
            S.streams_step six,
            S.streams_interval six,
            E.lead_first three k there,
            cut_count j.counts j.samples right.total k there,
          )

-- what the writer accepts and writes, the reader gives back
pub given_back : (j : Job) (founds : List (Option (List ℕ))) (streams : List (List ℕ)) → JobFits j → job_right j ≡ true
    → section1_right 0 j.section1 0 ≡ true → tables_given_right j.section2 ≡ true
    → SearchFindsAll j.section2 j.order (cut j.counts j.samples) founds → packed_all founds ≡ some streams → all_short streams ≡ true
    → length (record_of j streams) ≤ 1048576 → GivenBack j (record_of j streams)
unfolding record_of
given_back j founds streams bytes asked one two found made short small =
    let three = leads_data j.flags j.firsts j.counts j.ids in
    let six = streams_data j.step j.interval j.order streams in
    let r = record_bytes j.version j.section1 j.section2 three six in
    let accepted = O.opens_written j.version j.section1 j.section2 three six small one in
    let placed = O.section1_placed j.version j.section1 j.section2 three six small in
    record {
      opened = accepted;
      section1 = section1_there r j.section1 accepted placed one;
      walked = walk_there r j.section1 accepted placed one;
      fields = field_shown r j.section1 accepted placed one;
      samples = λ k room work there enough.
          lead_read j founds streams bytes asked one two found made short small k there room work enough;
      answers = λ k room work there enough.
          lead_answered j founds streams bytes asked one two found made short small k there room work enough;
      entries = λ k there. (byte_count_of (section_of r 6) k, entry_there j founds streams bytes asked one two found made short small k there);
      no_other = no_other j founds streams bytes asked one two found made short small;
    }
