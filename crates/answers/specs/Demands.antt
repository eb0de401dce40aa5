-- The customer's three demands, stated in full over what the contracts of the public calls say (crates/scp/src/lib.rt; `field` of
-- crates/fields; `find` of crates/index; the walker): the right sides of their equations, and the relations LeadEncoding and
-- RecordWriting. 01 cites the demands by number; their own words are quoted here behind a ">", each clause above the lines that state it.
--
-- The names below. r is the bytes of a record, and `place` a lead's place in it, from 1. s2 is Section 2's data as the writer is given
-- them, xs a lead's samples, j a job. `work` and `out` are the work space and the output before a call; a is what the call answered, w
-- the work space and o the output after it. `room` is how many elements an output has that is lent to the reader; where `work` is a
-- number, it is how many the work space has. A field is the k-th with its tag, from 1; a refusal that is `suc n` is not 0. What is
-- `lent` to opening are numbers; else it is the auditor's index, of which `used` bytes are in use. s is any bytes, and id an identifier
-- without its NUL. `entry_of` is a lead's entry, and `F.entry_of` a record's entry in the index.
--
-- > Any bytes and any numbers may come in, and every call ends.
-- The checker accepts a function only if it ends, for all that may come in; no call has a condition on its caller. It also accepts none
-- that changes what is lent only to be read. So neither needs a statement. The check, comparing identifiers, a step of the walk or along
-- the index, and a row asked alone refuse nothing.
use Rattle.std.specs.Prelude.{ℕ, suc, ◌+◌, ◌-◌, ◌*◌, ◌≤◌, ◌<◌, ◌≡◌, Bool, true, false, not, ◌&&◌, cond, List, [], ◌∷◌, ◌++◌, map, ◌⊎◌, ◌↔◌, Some, None, Err, eqb, ℤ, pos, length, get_or, take, drop, replicate}
use Rattle.wire.specs.Bounds.{most_bytes, most_samples, most_stream_bytes}
use Rattle.wire.specs.Numbers.{part}
use Rattle.wire.specs.RuleWords.{every}
use Rattle.header.specs.declared.Field.{Field}
use Rattle.header.specs.Fields.{step_at, fields_from, with_tag, occurring}
use Rattle.header.specs.Header.{found_keeps, any_field, section1_right}
use Rattle.bits.specs.Bits.{bits_in}
use Rattle.pointers.specs.Pointers.{data_at, count_of, start_of, section_of, pointers_from}
use Rattle.record.specs.RecordRules.{length_right, record_check_right, section0_right, all_placed_right, checks_right, fields_right}
use Rattle.record.specs.Opening.{open_refusal, open_count, open_numbers}
use Rattle.fields.specs.Identifier.{same}
use Rattle.fields.specs.Lookup.{field_place, walk_place, refusal_of, part_bytes}
use Rattle.tables.specs.declared.Structure.{Structure}
use Rattle.samples.specs.Differences.{differences}
use Rattle.samples.specs.Trace.{Trace, rebuilt, fault, fits16}
use Rattle.traces.specs.Rebuilding.{most_left_over, rebuild}
use Rattle.entries.specs.Section3.{flags_of, first_sample, lead_id}
use Rattle.entries.specs.Sections5And6.{step_of, interval_of}
use Rattle.rules.specs.LeadRules.{tables_right, beat_subtracted, sections3_to6_right, agrees, has_lead}
use Rattle.rules.specs.Rows.{row_kept}
use Rattle.leads.specs.declared.Lead.{Lead}
use Rattle.leads.specs.declared.Entry.{Entry}
use Rattle.leads.specs.LeadTrace.{tables_of, sample_count_at, trace_at, room_right, read_trace}
use Rattle.leads.specs.LeadCompared.{compared_at}
use Rattle.leads.specs.LeadAnswers.{lead_answer, out_after, work_after, entry_of, entry_answer}
use Rattle.packing.specs.Packing.{bytes_for, packed}
use Rattle.paths.specs.Before.{Before}
use Rattle.shortest.specs.Shortest.{are_bits, Stream}
use Rattle.encode.specs.declared.Coded.{Coded}
use Rattle.encode.specs.Encoding.{tables_given, asked_right, tables_given_right, work_right, LeadEncoding}
use Rattle.compose.specs.declared.Written.{Written}
use Rattle.compose.specs.Writing.{Job, longest, job_right, record_of, RecordWriting}
use Rattle.trip.specs.GivenBack.{JobFits, GivenBack, samples_of}
use Rattle.index.specs.Entry.{entry_size, entry_in, is_entry, shown_at, none_at, entry_at}
use Rattle.index.specs.Index.{index_bytes, entries_in, is_index, index_right, find_place}
use Rattle.filing.specs.declared.Indexed.{Indexed}
use Rattle.filing.specs.Filing as F
use Rattle.filing.specs.Filing.{section3_kept, date_kept, add_answer, place_for, put_in, index_after}
use Rattle.merging.specs.Merging.{merged, room_for_both, merge_answer, merged_into}
use Rattle.scp.specs.declared.ScpOpened.{ScpOpened}

-- ---- rules in a row

-- rules with the number that is given where one is broken, in the order in which they are asked: the number of the first that is broken;
-- where all are kept, `later`
unfoldable pub first_broken : List (ℕ × Bool) → ℕ → ℕ
first_broken [] later = later
first_broken (row ∷ rows) later = cond row.1 (first_broken rows later) row.0

-- all are kept
abbrev pub all_kept : List (ℕ × Bool) → Bool
all_kept rows = every (λ row. row.1) rows

abbrev pub AllKept : List (ℕ × Bool) → Type 0
AllKept rows = all_kept rows ≡ true

-- rows 1 to 6, asked of a record that is opened
abbrev pub rows_opened : List ℕ → List (ℕ × Bool)
rows_opened r =
    (1, length_right r) ∷ (2, record_check_right r) ∷ (3, section0_right r) ∷ (4, all_placed_right r) ∷ (5, checks_right r) ∷ (6, fields_right r) ∷ []

-- and 10, asked where a field is: the k-th with a tag
abbrev pub rows_field : List ℕ → ℕ → ℕ → List (ℕ × Bool)
rows_field r tag k =
    rows_opened r ++ ((10, found_keeps any_field (occurring k (with_tag tag (fields_from (section_of r 1) data_at)))) ∷ [])

-- rows 1 to 10, asked of the lead at a place; and 1 to 11, where this much room and work space are lent
abbrev pub rows_lead : List ℕ → ℕ → List (ℕ × Bool)
rows_lead r place =
    rows_opened r ++ ((7, tables_right r) ∷ (8, sections3_to6_right r) ∷ (9, agrees r) ∷ (10, has_lead r place) ∷ [])

abbrev pub rows_read : List ℕ → ℕ → ℕ → ℕ → List (ℕ × Bool)
rows_read r place room work = rows_lead r place ++ ((11, room_right r (place - 1) room work) ∷ [])

-- 17, 7 and 11 for work space, asked of a lead to be encoded; 17, 6, 7 and 11 for work space, of a job
abbrev pub rows_asked : List ℕ → ℕ → ℕ → ℕ → List (ℕ × Bool)
rows_asked s2 count order work = (17, asked_right count order) ∷ (7, tables_given_right s2) ∷ (11, work_right s2 count work) ∷ []

abbrev pub rows_job : Job → ℕ → List (ℕ × Bool)
rows_job j work =
    (17, job_right j) ∷ (6, section1_right 0 j.section1 0) ∷ (7, tables_given_right j.section2)
    ∷ (11, work_right j.section2 (longest j.counts) work) ∷ []

-- 26, asked of the auditor's index; and 26, 1 to 6, 8 for Section 3, 24 and 11, asked of a record that is added to it
abbrev pub rows_index : List ℕ → ℕ → List (ℕ × Bool)
rows_index lent used = (26, index_right lent used) ∷ []

abbrev pub rows_added : List ℕ → ℕ → List ℕ → List (ℕ × Bool)
rows_added lent used r =
    rows_index lent used ++ (rows_opened r ++ ((8, section3_kept r) ∷ (24, date_kept r) ∷ (11, F.room_right lent used r) ∷ []))

-- 26 and 11, asked of two indexes that are merged, and of the room for both
abbrev pub rows_merged : List ℕ → List ℕ → ℕ → List (ℕ × Bool)
rows_merged a b room = (26, is_index a) ∷ (26, is_index b) ∷ (11, room_for_both a b room) ∷ []

-- the fault that a trace has, and 0 where it is rebuilt
abbrev pub fault_of : Trace → ℕ
fault_of (rebuilt xs) = 0
fault_of (fault number) = number

-- what can be answered once a stream is looked for
abbrev pub Later : ℕ → Type 0
Later n = (n ≡ 0) ⊎ (n ≡ 11) ⊎ (n ≡ 15) ⊎ (n ≡ 16)

-- ---- answers that hold a refusal and nothing else

abbrev pub refused_lead : ℕ → Lead
refused_lead n = record { refusal = n; id = 0; flags = 0; step = 0; interval = 0; first = 0; count = 0; compared = 0 }

abbrev pub refused_entry : ℕ → Entry
refused_entry n = record { refusal = n; id = 0; flags = 0; order = 0; step = 0; interval = 0; first = 0; last = 0; leads = 0; bytes = 0 }

abbrev pub refused_stream : ℕ → Coded
refused_stream n = record { refusal = n; bytes = 0; bits = 0 }

abbrev pub refused_record : ℕ → Written
refused_record n = record { refusal = n; bytes = 0 }

abbrev pub refused_index : ℕ → Indexed
refused_index n = record { refusal = n; used = 0 }

-- ---- the first demand

pub record Demand1 : Type 0 where
  -- > A refusal is one number from 01's table, given exactly when its rule says.
  -- Opening, starting a walk, a field, a lead's entry: the smallest row that is broken, and 0 where none is
  pub opening : (r : List ℕ) → open_refusal r ≡ first_broken (rows_opened r) 0
  pub walk : (r : List ℕ) → refusal_of (walk_place r) ≡ first_broken (rows_opened r) 0
  pub field : (r : List ℕ) (tag k : ℕ) → refusal_of (field_place r tag k) ≡ first_broken (rows_field r tag k) 0
  pub entry : (r : List ℕ) (place : ℕ) → (entry_answer r place).refusal ≡ first_broken (rows_lead r place) 0
  -- reading a lead, 1 to 14: the smallest row of 1 to 11 that is broken; where all are kept, the first fault that its streams or the sums
  -- have, which is 12, 13 or 14
  pub reading : (r : List ℕ) (place room work : ℕ)
      → (lead_answer r place room work).refusal ≡ first_broken (rows_read r place room work) (fault_of (trace_at r (place - 1)))
  pub faults : (r : List ℕ) (k n : ℕ) → trace_at r k ≡ fault n → (n ≡ 12) ⊎ (n ≡ 13) ⊎ (n ≡ 14)
  -- encoding a lead and writing a record: the first of 17, 7 and 11, and of 17, 6, 7 and 11, that applies; where none does, a stream is
  -- looked for, and nothing but 15, 16 and 11 for the output can be given: the third demand says when
  pub coding : (s2 : List ℕ) (xs : List ℤ) (order : ℕ) (work out : List ℕ) (a : Coded) (w o : List ℕ) (n : ℕ)
      → LeadEncoding s2 xs order work out a w o → first_broken (rows_asked s2 (length xs) order (length work)) 0 ≡ suc n → a.refusal ≡ suc n
  pub writing : (j : Job) (work out : List ℕ) (a : Written) (w o : List ℕ) (n : ℕ) → RecordWriting j work out a w o
      → first_broken (rows_job j (length work)) 0 ≡ suc n → a.refusal ≡ suc n
  pub coding_later : (s2 : List ℕ) (xs : List ℤ) (order : ℕ) (work out : List ℕ) (a : Coded) (w o : List ℕ)
      → LeadEncoding s2 xs order work out a w o → AllKept (rows_asked s2 (length xs) order (length work)) → Later a.refusal
  pub writing_later : (j : Job) (work out : List ℕ) (a : Written) (w o : List ℕ) → RecordWriting j work out a w o
      → AllKept (rows_job j (length work)) → Later a.refusal
  -- adding a record to the index, merging two indexes and looking up an identifier in one: the first of their rows that is broken, and 0 where
  -- none is
  pub adding : (lent : List ℕ) (used : ℕ) (r : List ℕ) → (add_answer lent used r).refusal ≡ first_broken (rows_added lent used r) 0
  pub merging : (a b : List ℕ) (room : ℕ) → (merge_answer a b room).refusal ≡ first_broken (rows_merged a b room) 0
  pub finding : (lent : List ℕ) (used : ℕ) (id : List ℕ) → refusal_of (find_place lent used id) ≡ first_broken (rows_index lent used) 0
  -- a row from 1 to 9 that is asked alone is the row that opening and reading ask. So the smallest that is not kept is the refusal: of 1 to
  -- 6 that of opening, of 1 to 9 that of reading
  pub alone : (r : List ℕ) (place : ℕ)
      → rows_lead r place
      ≡ map (λ row. (row, row_kept r row)) (1 ∷ 2 ∷ 3 ∷ 4 ∷ 5 ∷ 6 ∷ 7 ∷ 8 ∷ 9 ∷ []) ++ ((10, has_lead r place) ∷ [])
  -- > It shows no trace or field and changes no lent byte,
  pub not_opened : (r lent : List ℕ) (n : ℕ) → open_refusal r ≡ suc n → (open_count r ≡ 0) × (open_numbers r lent ≡ lent)
  pub not_walked : (r : List ℕ) (n : ℕ) → refusal_of (walk_place r) ≡ suc n
      → (walk_place r ≡ Err (suc n)) × (part_bytes r (walk_place r) ≡ [])
  pub not_shown : (r : List ℕ) (tag k n : ℕ) → refusal_of (field_place r tag k) ≡ suc n
      → (field_place r tag k ≡ Err (suc n)) × (part_bytes r (field_place r tag k) ≡ [])
  pub not_entered : (r : List ℕ) (place n : ℕ) → (entry_answer r place).refusal ≡ suc n → entry_answer r place ≡ refused_entry (suc n)
  pub not_read : (r : List ℕ) (place n room work : ℕ) (out : List ℤ) → (lead_answer r place room work).refusal ≡ suc n
      → (lead_answer r place room work ≡ refused_lead (suc n)) × (out_after (read_trace r place room work) out ≡ out)
  pub not_coded : (s2 : List ℕ) (xs : List ℤ) (order : ℕ) (work out : List ℕ) (a : Coded) (w o : List ℕ) (n : ℕ)
      → LeadEncoding s2 xs order work out a w o → a.refusal ≡ suc n → (a ≡ refused_stream (suc n)) × (o ≡ out)
  pub not_written : (j : Job) (work out : List ℕ) (a : Written) (w o : List ℕ) (n : ℕ) → RecordWriting j work out a w o → a.refusal ≡ suc n
      → (a ≡ refused_record (suc n)) × (o ≡ out)
  pub not_added : (lent : List ℕ) (used : ℕ) (r : List ℕ) (n : ℕ) → (add_answer lent used r).refusal ≡ suc n
      → (add_answer lent used r ≡ refused_index (suc n)) × (index_after lent used r ≡ lent)
  pub not_merged : (a b out : List ℕ) (n : ℕ) → (merge_answer a b (length out)).refusal ≡ suc n
      → (merge_answer a b (length out) ≡ refused_index (suc n)) × (merged_into a b out ≡ out)
  pub not_found : (lent : List ℕ) (used : ℕ) (id : List ℕ) (n : ℕ) → refusal_of (find_place lent used id) ≡ suc n
      → (find_place lent used id ≡ Err (suc n)) × (part_bytes lent (find_place lent used id) ≡ [])
  -- > save that work space is cleared once its use has begun.
  -- It is zeros, all of it, once a beat's reading or a search has begun, refused or not, and untouched otherwise
  pub work_read : (r : List ℕ) (place room : ℕ) (work : List ℤ)
      → work_after r place room work ≡ cond (all_kept (rows_read r place room (length work)) && beat_subtracted r) (replicate (length work) (pos 0)) work
  pub work_coded : (s2 : List ℕ) (xs : List ℤ) (order : ℕ) (work out : List ℕ) (a : Coded) (w o : List ℕ) → LeadEncoding s2 xs order work out a w o
      → w ≡ cond (all_kept (rows_asked s2 (length xs) order (length work)) && not (eqb (length s2) 0)) (replicate (length work) 0) work
  pub work_written : (j : Job) (work out : List ℕ) (a : Written) (w o : List ℕ) → RecordWriting j work out a w o
      → w ≡ cond (all_kept (rows_job j (length work)) && not (eqb (length j.section2) 0)) (replicate (length work) 0) work

-- ---- the second demand

-- bits that the reader rebuilds to these samples, from table 1 on; up to 15 bits left over are ignored (Q-1)
pub record StreamFor (tables : List (List Structure)) (order : ℕ) (xs : List ℤ) (bs : List ℕ) : Type 0 where
  pub bits : are_bits bs ≡ true
  pub reads : rebuild tables order (length xs) bs ≡ rebuilt xs

-- bits by the values that are read: they begin with a stream for the differences of the samples, and up to `most` bits follow it
pub record BeginsWithStream (most : ℕ) (tables : List (List Structure)) (order : ℕ) (xs : List ℤ) (bs : List ℕ) : Type 0 where
  pub bits : are_bits bs ≡ true
  pub stream : List ℕ
  pub rest : List ℕ
  pub whole : stream ++ rest ≡ bs
  pub reads : Stream tables (differences order xs) stream
  pub few : length rest ≤ most

pub record Demand2 : Type 0 where
  -- > What is read is what SCP-ECG says, under 01's rules: header fields byte for byte, zeros kept, every lead sample exact.
  -- > Every record that meets the rules and limits is accepted.
  -- A record that keeps rows 1 to 6 is opened, and each pointer answered as stored
  pub opened : (r lent : List ℕ) → AllKept (rows_opened r)
      → (open_refusal r ≡ 0) × (open_count r ≡ count_of r) × (open_numbers r lent ≡ pointers_from r 0 (count_of r) ++ drop (3 * count_of r) lent)
  -- and every field of its Section 1 is shown, byte for byte
  pub shown : (r : List ℕ) (tag k : ℕ) (f : Field) → AllKept (rows_opened r)
      → occurring k (with_tag tag (fields_from (section_of r 1) data_at)) ≡ Some f
      → (refusal_of (field_place r tag k) ≡ 0) × (part_bytes r (field_place r tag k) ≡ part r (start_of r 1 + f.start) (start_of r 1 + f.end))
  -- a walk is over Section 1 whole, and its steps meet the fields one after another, each of them whole
  pub walked : (r : List ℕ) → AllKept (rows_opened r) → (refusal_of (walk_place r) ≡ 0) × (part_bytes r (walk_place r) ≡ section_of r 1)
  pub step_found : (s : List ℕ) (at : ℕ) (f : Field) → step_at s at ≡ Some f
      → (fields_from s at ≡ f ∷ fields_from s f.end) × (f.start ≤ f.end) × (f.end ≤ length s)
  pub step_end : (s : List ℕ) (at : ℕ) → step_at s at ≡ None → fields_from s at ≡ []
  -- two identifiers are the same exactly if their bytes are equal
  pub identifiers : (a b : List ℕ) → (same a b ≡ true) ↔ (a ≡ b)
  -- a lead of a record that keeps rows 1 to 10 is shown with what Sections 3 and 6 say of it
  pub entered : (r : List ℕ) (place : ℕ) → AllKept (rows_lead r place) → entry_answer r place ≡ entry_of r (place - 1) 0
  -- one that keeps row 11 too and whose streams are rebuilt is read to exactly its samples, as many as Section 3 says; beside them the
  -- answer has how many structures were compared (Q-6)
  pub read : (r : List ℕ) (place room work : ℕ) (xs out : List ℤ) → AllKept (rows_read r place room work)
      → trace_at r (place - 1) ≡ rebuilt xs
      → (lead_answer r place room work ≡ record {
        refusal = 0;
        id = lead_id (section_of r 3) (place - 1);
        flags = flags_of (section_of r 3);
        step = step_of (section_of r 6);
        interval = interval_of (section_of r 6);
        first = first_sample (section_of r 3) (place - 1);
        count = length xs;
        compared = compared_at r (place - 1);
      }) × (out_after (read_trace r place room work) out ≡ xs ++ drop (length xs) out) × (length xs ≡ sample_count_at r (place - 1))
  -- rebuilding undoes the differences: bits are rebuilt to samples of 16 bits exactly if reading value after value takes them to the
  -- differences of the samples, with up to 15 bits behind (Q-1); by a record's own tables, and by those that the writer is given
  pub undone : (r : List ℕ) (order : ℕ) (xs : List ℤ) (bs : List ℕ) → tables_right r ≡ true → every fits16 xs ≡ true
      → StreamFor (tables_of r) order xs bs ↔ BeginsWithStream most_left_over (tables_of r) order xs bs
  pub undone_given : (s2 : List ℕ) (order : ℕ) (xs : List ℤ) (bs : List ℕ) → tables_given_right s2 ≡ true → every fits16 xs ≡ true
      → StreamFor (tables_given s2) order xs bs ↔ BeginsWithStream most_left_over (tables_given s2) order xs bs
  -- where all rows of adding are kept, the record's entry is put in at its place. `AuditorsIndex` says what that gives, and what looking
  -- up shows
  pub added : (lent : List ℕ) (used : ℕ) (r : List ℕ) → AllKept (rows_added lent used r)
      → (add_answer lent used r ≡ record { refusal = 0; used = used + entry_size (F.entry_of r) })
      × (index_after lent used r ≡ put_in lent used (place_for (F.entry_of r) (entries_in (take used lent))) (F.entry_of r))
  -- where all rows of merging are kept, the entries of both are merged, and the output stays behind them. `MergedIndexes` says what that gives
  pub merged_two : (a b out : List ℕ) → AllKept (rows_merged a b (length out))
      → (merge_answer a b (length out) ≡ record { refusal = 0; used = length a + length b })
      × (merged_into a b out ≡ index_bytes (merged (entries_in a) (entries_in b)) ++ drop (length a + length b) out)
  -- a step at a place of any bytes shows the entry there, its identifier as a part of the bytes, and the place behind it, from which the
  -- others follow; or that there is none
  pub listed : (s : List ℕ) (at : ℕ) → is_entry (drop at s) ≡ true
      → (entry_at s at ≡ shown_at at (entry_in (drop at s)))
      × (entries_in (drop at s) ≡ entry_in (drop at s) ∷ entries_in (drop (entry_at s at).next s))
      × (part s (entry_at s at).start (entry_at s at).next ≡ (entry_in (drop at s)).identifier)
      × ((entry_at s at).next ≤ length s)
  pub listed_end : (s : List ℕ) (at : ℕ) → is_entry (drop at s) ≡ false → (entry_at s at ≡ none_at at) × (entries_in (drop at s) ≡ [])
  -- > What our writer accepts and writes, our reader gives back the same.
  -- First a lead that is encoded, then a record that is written
  pub coded_back : (s2 : List ℕ) (xs : List ℤ) (order : ℕ) (work out : List ℕ) (a : Coded) (w o : List ℕ) → every fits16 xs ≡ true
      → LeadEncoding s2 xs order work out a w o → a.refusal ≡ 0
      → rebuild (tables_given s2) order (length xs) (bits_in (take a.bytes o)) ≡ rebuilt xs
  pub given_back : (j : Job) (work out : List ℕ) (a : Written) (w o : List ℕ) → JobFits j → RecordWriting j work out a w o → a.refusal ≡ 0
      → GivenBack j (take a.bytes o)

-- ---- the third demand

-- > For any accepted set of code tables, any 1 to 65,536 samples of 16 bits and a difference order of 0, 1 or 2: with enough work space
-- > and output room the writer's stream for that lead has the fewest bits of all streams that the standard's reading rule, starting in
-- > table 1, takes to those samples, table switches counted.
-- And where others have as few, it is the one that is smaller at the first differing bit (01, Refusal numbers, the tie)
pub record FewestBits (tables : List (List Structure)) (order : ℕ) (xs : List ℤ) (bs : List ℕ) : Type 0 where
  pub stream : StreamFor tables order xs bs
  pub fewest : (other : List ℕ) → StreamFor tables order xs other → length bs ≤ length other
  pub smaller : (other : List ℕ) → StreamFor tables order xs other → length other ≡ length bs → (bs ≡ other) ⊎ Before bs other

-- > It refuses for want of a code exactly if no such stream exists, and for length exactly if the shortest needs more than 65,535 bytes
pub record EncodingDue (tables : List (List Structure)) (order : ℕ) (xs : List ℤ) (out : List ℕ) (a : Coded) (o : List ℕ) : Type 0 where
  pub no_code : (a.refusal ≡ 15) ↔ ((bs : List ℕ) → StreamFor tables order xs bs → ⊥)
  pub too_long : (a.refusal ≡ 16) ↔ ((bs : List ℕ) × FewestBits tables order xs bs × (most_stream_bytes < bytes_for (length bs)))
  -- 11 exactly if it needs no more, and the output has no room for it
  pub no_room : (a.refusal ≡ 11)
      ↔ ((bs : List ℕ) × FewestBits tables order xs bs × (bytes_for (length bs) ≤ most_stream_bytes) × (length out < bytes_for (length bs)))
  -- and it is accepted exactly if it fits. Then its bytes and bits are answered, and the output begins with it and is as it was behind it
  pub coded : (a.refusal ≡ 0)
      ↔ ((bs : List ℕ) × FewestBits tables order xs bs × (bytes_for (length bs) ≤ most_stream_bytes) × (bytes_for (length bs) ≤ length out))
  pub answered : (bs : List ℕ) → FewestBits tables order xs bs → a.refusal ≡ 0
      → (a ≡ record { refusal = 0; bytes = bytes_for (length bs); bits = length bs }) × (o ≡ packed bs ++ drop (bytes_for (length bs)) out)

-- the same for a record. For each lead of a job a list of bits, the fewest that are read to the lead's samples
pub record FewestAll (j : Job) (streams : List (List ℕ)) : Type 0 where
  pub leads : length streams ≡ length j.counts
  pub fewest : (k : ℕ) → k < length j.counts → FewestBits (tables_given j.section2) j.order (samples_of j k) (get_or streams k [])

-- the record with these streams, packed
abbrev pub record_with : Job → List (List ℕ) → List ℕ
record_with j streams = record_of j (map packed streams)

-- some lead has no stream
abbrev pub SomeWithout : Job → Type 0
SomeWithout j =
    (k : ℕ) × (k < length j.counts) × ((bs : List ℕ) → StreamFor (tables_given j.section2) j.order (samples_of j k) bs → ⊥)

-- some stream needs over 65,535 bytes, or the record has over 1,048,576
abbrev pub TooLong : Job → List (List ℕ) → Type 0
TooLong j streams =
    ((k : ℕ) × (k < length streams) × (most_stream_bytes < bytes_for (length (get_or streams k [])))) ⊎ (most_bytes < length (record_with j streams))

-- neither is so
pub record InBounds (j : Job) (streams : List (List ℕ)) : Type 0 where
  pub each_stream : (k : ℕ) → k < length streams → bytes_for (length (get_or streams k [])) ≤ most_stream_bytes
  pub whole : length (record_with j streams) ≤ most_bytes

-- > or, where a whole record is written, that record is over its bound.
pub record WritingDue (j : Job) (out : List ℕ) (a : Written) (o : List ℕ) : Type 0 where
  pub no_code : (a.refusal ≡ 15) ↔ SomeWithout j
  pub too_long : (a.refusal ≡ 16) ↔ ((streams : List (List ℕ)) × FewestAll j streams × TooLong j streams)
  pub no_room : (a.refusal ≡ 11)
      ↔ ((streams : List (List ℕ)) × FewestAll j streams × InBounds j streams × (length out < length (record_with j streams)))
  pub written : (a.refusal ≡ 0)
      ↔ ((streams : List (List ℕ)) × FewestAll j streams × InBounds j streams × (length (record_with j streams) ≤ length out))
  pub answered : (streams : List (List ℕ)) → FewestAll j streams → a.refusal ≡ 0
      → (a ≡ record { refusal = 0; bytes = length (record_with j streams) })
      × (o ≡ record_with j streams ++ drop (length (record_with j streams)) out)

pub record Demand3 : Type 0 where
  -- any accepted tables, or none; 1 to 65,536 samples of 16 bits; an order of 0 to 2; enough work space
  pub encoding : (s2 : List ℕ) (xs : List ℤ) (order : ℕ) (work out : List ℕ) (a : Coded) (w o : List ℕ)
      → tables_given_right s2 ≡ true → 1 ≤ length xs → length xs ≤ most_samples → every fits16 xs ≡ true → order ≤ 2
      → length xs * length (tables_given s2) ≤ length work → LeadEncoding s2 xs order work out a w o
      → EncodingDue (tables_given s2) order xs out a o
  -- and every job that keeps 17, 6, 7 and 11 for work space
  pub writing : (j : Job) (work out : List ℕ) (a : Written) (w o : List ℕ) → JobFits j → AllKept (rows_job j (length work))
      → RecordWriting j work out a w o → WritingDue j out a o

-- ---- any two outcomes that a contract allows are equal (01, What the contracts have to settle)

pub record OneOutcome : Type 1 where
  -- where the contract is an equation of the answer, or of a lent element afterwards: it says so by its form. `field`, `find` of the
  -- index, and the walker's `start` and `next`, hand back a part of what was lent, or the refusal: their contracts are equations of its
  -- number, and of the part's bytes and place, which is all that a part is
  pub equation : {A : Type 0} (a b of : A) → a ≡ of → b ≡ of → a ≡ b
  -- opening, which answers field by field
  pub opening : (r lent : List ℕ) (a b : ScpOpened) (p q : List ℕ)
      → (a.refusal ≡ open_refusal r) × (a.count ≡ open_count r) × (p ≡ open_numbers r lent)
      → (b.refusal ≡ open_refusal r) × (b.count ≡ open_count r) × (q ≡ open_numbers r lent) → (a ≡ b) × (p ≡ q)
  -- and where it is a relation
  pub encoding : (s2 : List ℕ) (xs : List ℤ) (order : ℕ) (work out : List ℕ) (a b : Coded) (w v o p : List ℕ)
      → LeadEncoding s2 xs order work out a w o → LeadEncoding s2 xs order work out b v p → (a ≡ b) × (w ≡ v) × (o ≡ p)
  pub writing : (j : Job) (work out : List ℕ) (a b : Written) (w v o p : List ℕ) → RecordWriting j work out a w o
      → RecordWriting j work out b v p → (a ≡ b) × (w ≡ v) × (o ≡ p)
