-- The second demand: a record that meets the rules is accepted, what is shown is what is stored, and what is written is given back. Assumes
-- nothing.
use Prim.Native.Nat.{ℕ, zero, suc, ◌+◌, ◌-◌, ◌*◌, ◌≤◌}
use mathlib.Core.Path.{◌≡◌, refl, sym, ap, ◌∙◌}
use mathlib.Core.Bool.{Bool, true, false, not, ◌||◌, cond}
use mathlib.Core.List.{List, [], ◌∷◌, ◌++◌}
use mathlib.Core.Option.{Option, none, some}
use native.Mathlib.Omega.{arith}
use lib.IntN.{ℤ}
use lib.ListN.{length, take, drop}
use lib.Seq.{take_at, drop-drop}
use Rattle.wire.specs.Numbers.{part}
use Rattle.wire.specs.RuleWords.{every}
use Rattle.header.specs.declared.Field.{Field}
use Rattle.header.proofs.Laws.{step_found, fields_step}
use Rattle.header.specs.Fields.{step_at, onward, fields_from, with_tag, occurring}
use Rattle.pointers.specs.Pointers.{data_at, count_of, present, start_of, length_of, section_of, pointers_from}
use Rattle.record.specs.Opening.{open_refusal, opens, open_count, open_numbers}
use Rattle.std.specs.Prelude.{Some, Ok, Err}
use Rattle.fields.specs.Lookup.{place_found, field_place, walk_place, refusal_of, part_bytes}
use Rattle.fields.proofs.Laws.{place_opened, found_inside}
use Rattle.bits.specs.Bits.{bits_in}
use Rattle.tables.specs.Section2.{tables_in, table_right, section2_right}
use Rattle.rules.specs.LeadRules.{tables_right}
use Rattle.leads.specs.LeadTrace.{tables_of}
use Rattle.samples.specs.Differences.{differences}
use Rattle.samples.specs.Trace.{rebuilt, fits16}
use Rattle.traces.specs.Rebuilding.{rebuild}
use Rattle.leads.specs.LeadAnswers.{entry_of}
use Rattle.leads.proofs.Laws.{trace_length}
use Rattle.packing.specs.Packing.{bytes_for, packed}
use Rattle.packing.proofs.Laws.{length_packed}
use Rattle.encode.specs.declared.Coded.{Coded}
use Rattle.encode.specs.Encoding as E
use Rattle.encode.specs.Encoding.{tables_given, tables_given_right, found_refusal, coded_as, out_as, LeadEncoding}
use Rattle.trip.proofs.Traces.{stream_back}
use Rattle.trip.proofs.Compose.{meant_right, given_right}
use Rattle.trip.proofs.Written.{written_back}
use Rattle.index.specs.Entry.{entry_size, entry_in, is_entry, shown_at, none_at, entry_at}
use Rattle.index.specs.Index.{index_bytes, entries_in}
use Rattle.index.specs.Entry as IE
use Rattle.index.proofs.Heads.{entry_fits}
use Rattle.index.proofs.Walk.{entries_step, seen_there, shown_there}
use Rattle.filing.specs.Filing as F
use Rattle.merging.specs.Merging.{merged, merge_answer, merged_into}
use Rattle.answers.specs.Demands.{AllKept, rows_added, rows_merged, rows_opened, rows_lead, Demand2}
use Rattle.answers.proofs.Laws.{none_broken}
use Rattle.answers.proofs.Refusals.{lead, opened, accepted, accepted_merge, streamed}
use Rattle.answers.proofs.Fewest.{given_kept, undone}
use Rattle.fields.proofs.Identifiers.{same_equal, equal_same}

opened_whole : (r lent : List ℕ) → AllKept (rows_opened r)
    → (open_refusal r ≡ 0) × (open_count r ≡ count_of r) × (open_numbers r lent ≡ pointers_from r 0 (count_of r) ++ drop (3 * count_of r) lent)
unfolding open_count opens open_numbers
opened_whole r lent kept =
    let none = opened r kept in
    let all : open_count r ≡ count_of r = rw none in
    (none, all, rw all)

shown : (r : List ℕ) (tag n : ℕ) (f : Field) → AllKept (rows_opened r)
    → occurring n (with_tag tag (fields_from (section_of r 1) data_at)) ≡ Some f
    → (refusal_of (field_place r tag n) ≡ 0) × (part_bytes r (field_place r tag n) ≡ part r (start_of r 1 + f.start) (start_of r 1 + f.end))
unfolding field_place
shown r tag n f kept e =
    let start = start_of r 1 in
    let order = (found_inside r n tag f e).0 in
    let end : start + f.start + (f.end - f.start) ≡ start + f.end = omega arith in
    let place : field_place r tag n ≡ Ok (record { start = start + f.start; size = f.end - f.start }) =
    place_opened r _ (Err (open_refusal r)) (opened r kept) ∙ ap (place_found start) e in
    rw (place, end) (refl, refl)

walked : (r : List ℕ) → AllKept (rows_opened r) → (refusal_of (walk_place r) ≡ 0) × (part_bytes r (walk_place r) ≡ section_of r 1)
unfolding walk_place section_of
walked r kept = rw (place_opened r (Ok (record { start = start_of r 1; size = length_of r 1 })) (Err (open_refusal r)) (opened r kept)) (refl, refl)

-- ---- a step of the walk

step_shown : (s : List ℕ) (at : ℕ) (f : Field) → step_at s at ≡ Some f
    → (fields_from s at ≡ f ∷ fields_from s f.end) × (f.start ≤ f.end) × (f.end ≤ length s)
step_shown s at f e = let w = step_found s at f e in (fields_step s at ∙ ap (onward (fields_from s)) e, w.order, w.end)

-- ---- the auditor's index

added : (lent : List ℕ) (used : ℕ) (r : List ℕ) → AllKept (rows_added lent used r)
    → (F.add_answer lent used r ≡ record { refusal = 0; used = used + entry_size (F.entry_of r) })
    × (F.index_after lent used r ≡ F.put_in lent used (F.place_for (F.entry_of r) (entries_in (take used lent))) (F.entry_of r))
unfolding F.add_answer F.index_after
added lent used r kept = rw (accepted lent used r kept) (refl, refl)

merged_two : (a b out : List ℕ) → AllKept (rows_merged a b (length out))
    → (merge_answer a b (length out) ≡ record { refusal = 0; used = length a + length b })
    × (merged_into a b out ≡ index_bytes (merged (entries_in a) (entries_in b)) ++ drop (length a + length b) out)
unfolding merge_answer merged_into
merged_two a b out kept = rw (accepted_merge a b (length out) kept) (refl, refl)

listed : (s : List ℕ) (at : ℕ) → is_entry (drop at s) ≡ true
    → (entry_at s at ≡ shown_at at (entry_in (drop at s)))
    × (entries_in (drop at s) ≡ entry_in (drop at s) ∷ entries_in (drop (entry_at s at).next s))
    × (part s (entry_at s at).start (entry_at s at).next ≡ (entry_in (drop at s)).identifier)
    × ((entry_at s at).next ≤ length s)
unfolding entry_at
listed s at h =
    let t = drop at s in
    let w = shown_there s at h in
    let own = seen_there s at (entry_fits t h) in
    (rw h, entries_step t ∙ rw (h, drop-drop (entry_size (entry_in t)) at s), rw h (ap (λ (e : IE.Entry). e.identifier) own), rw h w.within)

listed_end : (s : List ℕ) (at : ℕ) → is_entry (drop at s) ≡ false → (entry_at s at ≡ none_at at) × (entries_in (drop at s) ≡ [])
unfolding entry_at
listed_end s at h = (rw h, entries_step (drop at s) ∙ rw h)

-- ---- the tables of a record

pub record_right : (r : List ℕ) → tables_right r ≡ true → every (table_right (length (tables_of r))) (tables_of r) ≡ true
unfolding tables_right tables_of every
record_right r h = go (present r 2) h
  where
    go : (b : Bool) → not b || section2_right 1 (section_of r 2) data_at ≡ true
        → every (table_right (length (cond b (tables_in (section_of r 2) data_at) []))) (cond b (tables_in (section_of r 2) data_at) []) ≡ true
    go true g = meant_right 1 (section_of r 2) data_at g
    go false g = refl

-- ---- what encoding a lead answers

-- by what was found, and the number that it gives
coded_back : (s2 : List ℕ) (xs : List ℤ) (order : ℕ) (out : List ℕ) → tables_given_right s2 ≡ true → every fits16 xs ≡ true
    → (found : Option (List ℕ)) → E.SearchFinds (tables_given s2) (differences order xs) found → (n : ℕ) → found_refusal (length out) found ≡ n
    → (coded_as n found).refusal ≡ 0
    → rebuild (tables_given s2) order (length xs) (bits_in (take (coded_as n found).bytes (out_as n found out))) ≡ rebuilt xs
unfolding found_refusal
coded_back s2 xs order out right fit none F zero e h = absurd (omega arith)
coded_back s2 xs order out right fit none F (suc n) e h = absurd (omega arith)
coded_back s2 xs order out right fit (some bs) F (suc n) e h = absurd (omega arith)
coded_back s2 xs order out right fit (some bs) F zero e h =
    let tables = tables_given s2 in
    rw (take_at (packed bs) (drop (bytes_for (length bs)) out) (bytes_for (length bs)) (length_packed bs))
    (stream_back (length tables) tables (given_right s2 right) order xs bs fit F.stream)

encoded_back : {s2 : List ℕ} {xs : List ℤ} {order : ℕ} {work out : List ℕ} {a : Coded} {w o : List ℕ} → every fits16 xs ≡ true
    → LeadEncoding s2 xs order work out a w o → a.refusal ≡ 0
    → rebuild (tables_given s2) order (length xs) (bits_in (take a.bytes o)) ≡ rebuilt xs
encoded_back fit (E.refused n e) h = absurd (omega arith)
encoded_back {s2 = s2} {xs = xs} {order = order} {work = work} {out = out} fit (E.answered found e F) h =
    coded_back s2 xs order out (given_kept s2 (length xs) order (length work) e) fit found F (found_refusal (length out) found) refl h

-- ---- the demand

pub demand2 : Demand2
demand2 = record {
  opened = opened_whole;
  shown = shown;
  walked = walked;
  step_found = step_shown;
  step_end = λ s at e. fields_step s at ∙ ap (onward (fields_from s)) e;
  identifiers = λ a b. (same_equal a b, λ e. rw (← e) (equal_same a));
  entered = λ r place kept. ap (entry_of r (place - 1)) (lead r place ∙ none_broken (rows_lead r place) 0 kept);
  read = λ r place room work xs out kept e.
      rw (streamed r place room work kept, e) (refl, refl, trace_length r (place - 1) xs (sym e));
  undone = λ r order xs bs right fit. undone (length (tables_of r)) (tables_of r) (record_right r right) order xs bs fit;
  undone_given = λ s2 order xs bs right fit. undone (length (tables_given s2)) (tables_given s2) (given_right s2 right) order xs bs fit;
  added = added;
  merged_two = merged_two;
  listed = listed;
  listed_end = listed_end;
  coded_back = λ s2 xs order work out a w o fit e. encoded_back fit e;
  given_back = λ j work out a w o fits f. written_back j work out fits f;
}
