-- The first demand: a refusal is one number, given exactly when its rule says; it shows nothing and changes no lent element. Assumes nothing.
use Prim.Native.Nat.{ℕ, zero, suc, ◌-◌}
use mathlib.Core.Path.{◌≡◌, refl, sym, ap, ◌∙◌}
use mathlib.Core.Bool.{Bool, true, false, not, ◌&&◌, cond}
use mathlib.Core.List.{List, [], ◌∷◌, ◌++◌, map}
use mathlib.Core.Logic.{inl, inr}
use mathlib.Core.Option.{Option, none, some}
use native.Mathlib.Omega.{arith}
use lib.Dec.{leb, eqb}
use borrow.Author.Tests.{eqb-true, eq-eqb, ne_eqb}
use lib.IntN.{ℤ, pos}
use lib.ListN.{length, take, replicate}
use Rattle.wire.specs.RuleWords.{every, unless}
use Rattle.header.specs.declared.Field.{Field}
use Rattle.header.specs.Fields.{fields_from, with_tag, occurring}
use Rattle.header.specs.Header.{found_keeps, any_field}
use Rattle.pointers.specs.Pointers.{data_at, start_of, length_of, section_of, pointers_from}
use Rattle.record.specs.Opening.{open_refusal, opens, open_count, open_numbers}
use Rattle.fields.specs.declared.Part.{Part}
use Rattle.std.specs.Prelude.{Option as Answer, Result, Ok, Err, Some, None}
use Rattle.fields.specs.Lookup.{place_found, field_place, walk_place, refusal_of, part_bytes}
use Rattle.samples.specs.Trace.{Trace, rebuilt, fault}
use Rattle.rules.specs.LeadRules.{beat_subtracted, tables_right, sections3_to6_right, agrees, has_lead, lead_refusal}
use Rattle.rules.specs.Rows.{row_kept}
use Rattle.leads.specs.LeadTrace.{trace_at, room_right, read_refusal, read_trace}
use Rattle.leads.specs.LeadAnswers.{lead_of, lead_answer, out_after, work_after, entry_of}
use Rattle.packing.specs.Packing.{bytes_for}
use Rattle.encode.specs.declared.Coded.{Coded}
use Rattle.encode.specs.Encoding as E
use Rattle.encode.specs.Encoding.{LeadEncoding}
use Rattle.compose.specs.declared.Written.{Written}
use Rattle.compose.specs.Writing as C
use Rattle.compose.specs.Writing.{Job, RecordWriting}
use Rattle.index.specs.Index.{bytes_in, entries_in, index_right, front, behind, smaller, has, part_or_none, found, find_place}
use Rattle.filing.specs.Filing as F
use Rattle.merging.specs.Merging.{merge_refusal, merge_answer, merged_into}
use Rattle.answers.specs.Demands.{first_broken, all_kept, AllKept, rows_index, rows_added, rows_merged, refused_index, rows_opened, rows_field, rows_lead, rows_read, rows_asked, rows_job, fault_of, Later, refused_lead, refused_entry, refused_stream, refused_record, Demand1}
use Rattle.answers.proofs.Faults.{fault_number}
use Rattle.answers.proofs.Laws.{none_broken, broken_behind, broken_first, broken_kept}

-- ---- the first row that is broken

pub opening : (r : List ℕ) → open_refusal r ≡ first_broken (rows_opened r) 0
unfolding open_refusal first_broken
opening r = refl

-- rows that are asked where a record opens
behind_opened : (r : List ℕ) (more : List (ℕ × Bool))
    → cond (opens r) (first_broken more 0) (open_refusal r) ≡ first_broken (rows_opened r ++ more) 0
unfolding opens every
behind_opened r more =
    rw (opening r) (sym (broken_behind (rows_opened r) more 0 ∙ broken_first (rows_opened r) (first_broken more 0) refl))

pub lead : (r : List ℕ) (place : ℕ) → lead_refusal r place ≡ first_broken (rows_lead r place) 0
unfolding lead_refusal first_broken
lead r place = behind_opened r ((7, tables_right r) ∷ (8, sections3_to6_right r) ∷ (9, agrees r) ∷ (10, has_lead r place) ∷ [])

pub reading : (r : List ℕ) (place room work : ℕ) → read_refusal r place room work ≡ first_broken (rows_read r place room work) 0
unfolding read_refusal first_broken every
reading r place room work =
    let more : List (ℕ × Bool) = (11, room_right r (place - 1) room work) ∷ [] in
    rw (lead r place) (sym (broken_behind (rows_lead r place) more 0 ∙ broken_first (rows_lead r place) (first_broken more 0) refl))

-- ---- opening, and showing a field

-- where rows 1 to 6 are kept opening is not refused
pub opened : (r : List ℕ) → AllKept (rows_opened r) → open_refusal r ≡ 0
opened r kept = opening r ∙ none_broken (rows_opened r) 0 kept

not_opened : (r lent : List ℕ) (n : ℕ) → open_refusal r ≡ suc n → (open_count r ≡ 0) × (open_numbers r lent ≡ lent)
unfolding open_count opens open_numbers pointers_from
not_opened r lent n e =
    let none : open_count r ≡ 0 = rw (e, ne_eqb (suc n) 0 (omega arith)) in
    (none, rw none)

-- a place that is refused as opening is, or by what is found
refused_or : (b : Bool) (n : ℕ) (p : Result Part ℕ) → refusal_of (cond b p (Err n)) ≡ cond b (refusal_of p) n
refused_or true n p = refl
refused_or false n p = refl

field : (r : List ℕ) (tag k : ℕ) → refusal_of (field_place r tag k) ≡ first_broken (rows_field r tag k) 0
unfolding field_place first_broken
field r tag k =
    let step = occurring k (with_tag tag (fields_from (section_of r 1) data_at)) in
    refused_or (opens r) (open_refusal r) (place_found (start_of r 1) step)
    ∙ ap (λ (m : ℕ). cond (opens r) m (open_refusal r)) (found step)
    ∙ behind_opened r ((10, found_keeps any_field step) ∷ [])
  where
    found : (step : Answer Field) → refusal_of (place_found (start_of r 1) step) ≡ cond (found_keeps any_field step) 0 10
    found (Some f) = refl
    found None = refl

-- a place that is refused is a refusal and has no bytes
not_shown : (r : List ℕ) (n : ℕ) (p : Result Part ℕ) → refusal_of p ≡ suc n → (p ≡ Err (suc n)) × (part_bytes r p ≡ [])
not_shown r n (Ok part) h = absurd (omega arith)
not_shown r n (Err number) h = (ap Err h, refl)

-- a walk starts as opening goes
walk : (r : List ℕ) → refusal_of (walk_place r) ≡ first_broken (rows_opened r) 0
unfolding walk_place opens
walk r = go (eqb (open_refusal r) 0) refl ∙ opening r
  where
    go : (b : Bool) → eqb (open_refusal r) 0 ≡ b → refusal_of (cond b (Ok (record { start = start_of r 1; size = length_of r 1 })) (Err (open_refusal r))) ≡ open_refusal r
    go true e = sym (eqb-true (open_refusal r) 0 e)
    go false e = refl

-- ---- the auditor's index

-- 26 comes first, then what opening asks, then the rest
added : (lent : List ℕ) (used : ℕ) (r : List ℕ) → (F.add_answer lent used r).refusal ≡ first_broken (rows_added lent used r) 0
unfolding F.add_answer F.add_refusal first_broken
added lent used r =
    ap (λ (n : ℕ). cond (index_right lent used) n 26)
    (behind_opened r ((8, F.section3_kept r) ∷ (24, F.date_kept r) ∷ (11, F.room_right lent used r) ∷ []))

-- where its rows are kept a record is accepted
pub accepted : (lent : List ℕ) (used : ℕ) (r : List ℕ) → AllKept (rows_added lent used r) → F.add_refusal lent used r ≡ 0
unfolding F.add_answer
accepted lent used r kept = added lent used r ∙ none_broken (rows_added lent used r) 0 kept

not_added : (lent : List ℕ) (used : ℕ) (r : List ℕ) (n : ℕ) → (F.add_answer lent used r).refusal ≡ suc n
    → (F.add_answer lent used r ≡ refused_index (suc n)) × (F.index_after lent used r ≡ lent)
unfolding F.add_answer F.index_after
not_added lent used r n e = rw (e, ne_eqb (suc n) 0 (omega arith)) (refl, refl)

-- ---- merging

merging : (a b : List ℕ) (room : ℕ) → (merge_answer a b room).refusal ≡ first_broken (rows_merged a b room) 0
unfolding merge_answer merge_refusal first_broken
merging a b room = refl

-- where its rows are kept it is accepted
pub accepted_merge : (a b : List ℕ) (room : ℕ) → AllKept (rows_merged a b room) → merge_refusal a b room ≡ 0
unfolding merge_answer
accepted_merge a b room kept = merging a b room ∙ none_broken (rows_merged a b room) 0 kept

not_merged : (a b out : List ℕ) (n : ℕ) → (merge_answer a b (length out)).refusal ≡ suc n
    → (merge_answer a b (length out) ≡ refused_index (suc n)) × (merged_into a b out ≡ out)
unfolding merge_answer merged_into
not_merged a b out n e = rw (e, ne_eqb (suc n) 0 (omega arith)) (refl, refl)

-- ---- looking up

found_none : (start size : ℕ) → refusal_of (part_or_none start size) ≡ 0
found_none start size = go (eqb size 0)
  where
    go : (b : Bool) → refusal_of (cond b (Ok (record { start = 0; size = 0 })) (Ok (record { start = start; size = size }))) ≡ 0
    go true = refl
    go false = refl

finding : (lent : List ℕ) (used : ℕ) (id : List ℕ) → refusal_of (find_place lent used id) ≡ first_broken (rows_index lent used) 0
unfolding find_place found first_broken
finding lent used id =
    let es = entries_in (take used lent) in
    refused_or (index_right lent used) 26 (found id es)
    ∙ ap (λ (n : ℕ). cond (index_right lent used) n 26)
    (found_none (bytes_in (front (smaller id) es)) (bytes_in (front (has id) (behind (smaller id) es))))

-- ---- a lead and its entry

entry_refusal : (r : List ℕ) (k n : ℕ) → (entry_of r k n).refusal ≡ n
entry_refusal r k zero = refl
entry_refusal r k (suc n) = refl

not_entered : (r : List ℕ) (k m n : ℕ) → (entry_of r k m).refusal ≡ suc n → entry_of r k m ≡ refused_entry (suc n)
not_entered r k zero n h = absurd (omega arith)
not_entered r k (suc m) n h = ap refused_entry h

-- where rows 1 to 11 are kept the streams decide
pub streamed : (r : List ℕ) (place room work : ℕ) → AllKept (rows_read r place room work) → read_trace r place room work ≡ trace_at r (place - 1)
unfolding read_trace
streamed r place room work kept =
    rw (eq-eqb (read_refusal r place room work) 0 (reading r place room work ∙ none_broken (rows_read r place room work) 0 kept))

lead_refusal_lem : (r : List ℕ) (k : ℕ) (t : Trace) → (lead_of r k t).refusal ≡ fault_of t
lead_refusal_lem r k (rebuilt xs) = refl
lead_refusal_lem r k (fault n) = refl

fault_or : (b : Bool) (n : ℕ) (t : Trace) → fault_of (cond b t (fault n)) ≡ cond b (fault_of t) n
fault_or true n t = refl
fault_or false n t = refl

read : (r : List ℕ) (place room work : ℕ)
    → (lead_answer r place room work).refusal ≡ first_broken (rows_read r place room work) (fault_of (trace_at r (place - 1)))
unfolding read_trace every
read r place room work =
    let rows = rows_read r place room work in
    let found = trace_at r (place - 1) in
    let number = read_refusal r place room work in
    lead_refusal_lem r (place - 1) (read_trace r place room work)
    ∙ fault_or (eqb number 0) number found
    ∙ ap (λ (n : ℕ). cond (eqb n 0) (fault_of found) n) (reading r place room work)
    ∙ sym (broken_first rows (fault_of found) refl)

not_read : (r : List ℕ) (k n : ℕ) (t : Trace) (out : List ℤ) → (lead_of r k t).refusal ≡ suc n
    → (lead_of r k t ≡ refused_lead (suc n)) × (out_after t out ≡ out)
not_read r k n (rebuilt xs) out h = absurd (omega arith)
not_read r k n (fault number) out h = (ap refused_lead h, refl)

work_read : (r : List ℕ) (place room : ℕ) (work : List ℤ)
    → work_after r place room work ≡ cond (all_kept (rows_read r place room (length work)) && beat_subtracted r)
    (replicate (length work) (pos 0)) work
unfolding work_after every
work_read r place room work =
    let rows = rows_read r place room (length work) in
    let kept : eqb (read_refusal r place room (length work)) 0 ≡ all_kept rows =
    ap (λ (n : ℕ). eqb n 0) (reading r place room (length work)) ∙ broken_kept rows refl in
    ap (λ (b : Bool). cond (b && beat_subtracted r) (replicate (length work) (pos 0)) work) kept

-- ---- encoding and writing

-- what is asked before a stream is looked for, in its order
coding_first : (s2 : List ℕ) (count order work : ℕ) → E.asked_refusal s2 count order work ≡ first_broken (rows_asked s2 count order work) 0
unfolding E.asked_refusal first_broken
coding_first s2 count order work = refl

writing_first : (j : Job) (work : ℕ) → C.job_refusal j work ≡ first_broken (rows_job j work) 0
unfolding C.job_refusal first_broken
writing_first j work = refl

-- refused by none of that exactly if all is kept
coding_kept : (s2 : List ℕ) (count order work : ℕ) → all_kept (rows_asked s2 count order work) ≡ eqb (E.asked_refusal s2 count order work) 0
unfolding every
coding_kept s2 count order work =
    sym (ap (λ (n : ℕ). eqb n 0) (coding_first s2 count order work) ∙ broken_kept (rows_asked s2 count order work) refl)

pub writing_kept : (j : Job) (work : ℕ) → all_kept (rows_job j work) ≡ eqb (C.job_refusal j work) 0
unfolding every
writing_kept j work = sym (ap (λ (n : ℕ). eqb n 0) (writing_first j work) ∙ broken_kept (rows_job j work) refl)

-- work space where nothing of that is the answer
work_after_lem : (s2 work : List ℕ) → E.work_searched s2 work ≡ cond (true && not (eqb (length s2) 0)) (replicate (length work) 0) work
unfolding E.work_searched
work_after_lem s2 work = go (eqb (length s2) 0)
  where
    go : (b : Bool) → cond b work (replicate (length work) 0) ≡ cond (not b) (replicate (length work) 0) work
    go true = refl
    go false = refl

not_coded : (m n : ℕ) (found : Option (List ℕ)) (out : List ℕ) → (E.coded_as m found).refusal ≡ suc n
    → (E.coded_as m found ≡ refused_stream (suc n)) × (E.out_as m found out ≡ out)
not_coded zero n none out h = absurd (omega arith)
not_coded zero n (some bs) out h = absurd (omega arith)
not_coded (suc m) n found out h = (ap refused_stream h, refl)

not_written : (j : Job) (m n : ℕ) (streams : Option (List (List ℕ))) (out : List ℕ) → (C.written_as j m streams).refusal ≡ suc n
    → (C.written_as j m streams ≡ refused_record (suc n)) × (C.record_out j m streams out ≡ out)
not_written j zero n none out h = absurd (omega arith)
not_written j zero n (some streams) out h = absurd (omega arith)
not_written j (suc m) n streams out h = (ap refused_record h, refl)

encode_refused : {s2 : List ℕ} {xs : List ℤ} {order : ℕ} {work out : List ℕ} {a : Coded} {w o : List ℕ} (n : ℕ) → LeadEncoding s2 xs order work out a w o
    → a.refusal ≡ suc n → (a ≡ refused_stream (suc n)) × (o ≡ out)
encode_refused {out = out} n (E.refused m e) h = not_coded (suc m) n none out h
encode_refused {out = out} n (E.answered found e F) h = not_coded (E.found_refusal (length out) found) n found out h

encode_work : {s2 : List ℕ} {xs : List ℤ} {order : ℕ} {work out : List ℕ} {a : Coded} {w o : List ℕ} → LeadEncoding s2 xs order work out a w o
    → w ≡ cond (all_kept (rows_asked s2 (length xs) order (length work)) && not (eqb (length s2) 0)) (replicate (length work) 0) work
encode_work {s2 = s2} {xs = xs} {order = order} {work = work} (E.refused n e) =
    rw (coding_kept s2 (length xs) order (length work), e, ne_eqb (suc n) 0 (omega arith))
encode_work {s2 = s2} {xs = xs} {order = order} {work = work} (E.answered found e F) =
    rw (coding_kept s2 (length xs) order (length work), e) (work_after_lem s2 work)

encode_asked : {s2 : List ℕ} {xs : List ℤ} {order : ℕ} {work out : List ℕ} {a : Coded} {w o : List ℕ} (n : ℕ)
    → LeadEncoding s2 xs order work out a w o → E.asked_refusal s2 (length xs) order (length work) ≡ suc n → a.refusal ≡ suc n
encode_asked n (E.refused m e) h = sym e ∙ h
encode_asked n (E.answered found e F) h = absurd (omega (arith, sym e ∙ h))

write_refused : {j : Job} {work out : List ℕ} {a : Written} {w o : List ℕ} (n : ℕ) → RecordWriting j work out a w o → a.refusal ≡ suc n
    → (a ≡ refused_record (suc n)) × (o ≡ out)
write_refused {j = j} {out = out} n (C.refused m e) h = not_written j (suc m) n none out h
write_refused {j = j} {out = out} n (C.answered founds e F) h =
    not_written j (C.record_refusal j (length out) (C.packed_all founds)) n (C.packed_all founds) out h

write_work : {j : Job} {work out : List ℕ} {a : Written} {w o : List ℕ} → RecordWriting j work out a w o
    → w ≡ cond (all_kept (rows_job j (length work)) && not (eqb (length j.section2) 0)) (replicate (length work) 0) work
write_work {j = j} {work = work} (C.refused n e) = rw (writing_kept j (length work), e, ne_eqb (suc n) 0 (omega arith))
write_work {j = j} {work = work} (C.answered founds e F) = rw (writing_kept j (length work), e) (work_after_lem j.section2 work)

write_asked : {j : Job} {work out : List ℕ} {a : Written} {w o : List ℕ} (n : ℕ) → RecordWriting j work out a w o
    → C.job_refusal j (length work) ≡ suc n → a.refusal ≡ suc n
write_asked n (C.refused m e) h = sym e ∙ h
write_asked n (C.answered founds e F) h = absurd (omega (arith, sym e ∙ h))

-- ---- what can be answered once a stream is looked for

-- a refusal of two rules in a row, or none
later_by : (a b : Bool) → Later (unless a 16 (unless b 11 0))
later_by true true = inl refl
later_by true false = inr (inl refl)
later_by false b = inr (inr (inr refl))

coded_refusal : (n : ℕ) (found : Option (List ℕ)) → (E.coded_as n found).refusal ≡ n
coded_refusal zero none = refl
coded_refusal zero (some bs) = refl
coded_refusal (suc n) found = refl

written_refusal : (j : Job) (n : ℕ) (streams : Option (List (List ℕ))) → (C.written_as j n streams).refusal ≡ n
written_refusal j zero none = refl
written_refusal j zero (some streams) = refl
written_refusal j (suc n) streams = refl

found_later : (room : ℕ) (found : Option (List ℕ)) → Later (E.found_refusal room found)
unfolding E.found_refusal
found_later room none = inr (inr (inl refl))
found_later room (some bs) = later_by (leb (bytes_for (length bs)) 65535) (leb (bytes_for (length bs)) room)

record_later : (j : Job) (room : ℕ) (streams : Option (List (List ℕ))) → Later (C.record_refusal j room streams)
unfolding C.record_refusal
record_later j room none = inr (inr (inl refl))
record_later j room (some streams) =
    later_by (C.all_short streams && leb (length (C.record_of j streams)) 1048576) (leb (length (C.record_of j streams)) room)

encode_later : {s2 : List ℕ} {xs : List ℤ} {order : ℕ} {work out : List ℕ} {a : Coded} {w o : List ℕ} → LeadEncoding s2 xs order work out a w o
    → E.asked_refusal s2 (length xs) order (length work) ≡ 0 → Later a.refusal
encode_later (E.refused n e) h = absurd (omega (arith, sym e ∙ h))
encode_later {out = out} (E.answered found e F) h = rw (coded_refusal (E.found_refusal (length out) found) found) (found_later (length out) found)

write_later : {j : Job} {work out : List ℕ} {a : Written} {w o : List ℕ} → RecordWriting j work out a w o → C.job_refusal j (length work) ≡ 0
    → Later a.refusal
write_later (C.refused n e) h = absurd (omega (arith, sym e ∙ h))
write_later {j = j} {out = out} (C.answered founds e F) h =
    let streams = C.packed_all founds in
    rw (written_refusal j (C.record_refusal j (length out) streams) streams) (record_later j (length out) streams)

-- ---- a row asked alone

alone : (r : List ℕ) (place : ℕ)
    → rows_lead r place
    ≡ map (λ row. (row, row_kept r row)) (1 ∷ 2 ∷ 3 ∷ 4 ∷ 5 ∷ 6 ∷ 7 ∷ 8 ∷ 9 ∷ []) ++ ((10, has_lead r place) ∷ [])
unfolding row_kept
alone r place = refl

-- ---- the demand

pub demand1 : Demand1
demand1 = record {
  opening = opening;
  walk = walk;
  field = field;
  entry = λ r place. entry_refusal r (place - 1) (lead_refusal r place) ∙ lead r place;
  reading = read;
  faults = fault_number;
  coding = λ s2 xs order work out a w o n f h. encode_asked n f (coding_first s2 (length xs) order (length work) ∙ h);
  writing = λ j work out a w o n f h. write_asked n f (writing_first j (length work) ∙ h);
  coding_later = λ s2 xs order work out a w o f kept.
      encode_later f (eqb-true (E.asked_refusal s2 (length xs) order (length work)) 0 (sym (coding_kept s2 (length xs) order (length work)) ∙ kept));
  writing_later = λ j work out a w o f kept.
      write_later f (eqb-true (C.job_refusal j (length work)) 0 (sym (writing_kept j (length work)) ∙ kept));
  adding = added;
  merging = merging;
  finding = finding;
  alone = alone;
  not_opened = not_opened;
  not_walked = λ r n. not_shown r n (walk_place r);
  not_shown = λ r tag k n. not_shown r n (field_place r tag k);
  not_entered = λ r place n. not_entered r (place - 1) (lead_refusal r place) n;
  not_read = λ r place n room work out. not_read r (place - 1) n (read_trace r place room work) out;
  not_coded = λ s2 xs order work out a w o n e. encode_refused n e;
  not_written = λ j work out a w o n f. write_refused n f;
  not_added = not_added;
  not_merged = not_merged;
  not_found = λ lent used id n. not_shown lent n (find_place lent used id);
  work_read = work_read;
  work_coded = λ s2 xs order work out a w o e. encode_work e;
  work_written = λ j work out a w o f. write_work f;
}
