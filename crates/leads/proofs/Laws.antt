-- Laws that the proofs of this crate cite. Assumes nothing.
use Prim.Native.Nat.{ℕ, ◌+◌, ◌-◌, ◌*◌, ◌≤◌, ◌<◌}
use mathlib.Core.Path.{◌≡◌, refl, sym, ap, ◌∙◌}
use mathlib.Core.Bool.{Bool, true, false, cond, and-eq-true_iff}
use mathlib.Core.List.{List, []}
use native.Mathlib.Omega.{arith}
use lib.Dec.{leb}
use lib.IntN.{ℤ, pos}
use lib.ListN.{length, replicate}
use borrow.Author.Tests.{leb-true}
use denote.Ref.{Bor}
use Rattle.std.specs.Prelude.{Result, Ok, Err}
use Rattle.std.specs.Option.{ForSome, option_copied}
use Rattle.std.specs.Bool.{then_some}
use Rattle.refusals.specs.declared.Refusal.{Refusal}
use Rattle.refusals.specs.declared.Refusal.TheVariants.{Length, RecordCheck, Section0, Placement, SectionCheck, HeaderFields, CodeTables, LeadSections, Disagreement, NotFound, Room, NoValue, OutOfRange, LeftOver, NoCode, TooLong, Request, Date, Index}
use Rattle.refusals.specs.Refusals.{number_of, refusal_in}
use Rattle.wire.proofs.Laws.{kept_first, unlike}
use Rattle.wire.proofs.Tests.{same, differ}
use Rattle.pointers.specs.Pointers.{present, section_of}
use Rattle.tables.specs.Section2.{tables_in, section2_right}
use Rattle.compiled.specs.InnerForm.{tables_held}
use Rattle.entries.specs.Section3.{first_sample}
use Rattle.entries.proofs.Laws.{leads_right, lead_samples}
use Rattle.rules.specs.LeadRules.{tables_right, lead_count_of, beat_subtracted, beat_sample_count, beat_right, lead_refusal}
use Rattle.rules.proofs.Laws.{both_passed, asked, sound}
use Rattle.samples.specs.Trace.{Trace, rebuilt, fault, after_trace}
use Rattle.samples.specs.InnerTrace.{trace_of}
use Rattle.traces.proofs.Laws.{rebuilt_length}
use Rattle.beats.specs.Sums.{add_beat}
use Rattle.beats.proofs.Laws.{added_length}
use Rattle.leads.specs.LeadTrace.{tables_of, sample_count_at, stream_trace, residual, trace_at, room_right, read_refusal, read_trace}
use Rattle.leads.specs.LeadCompared.{stream_compared, over_streams, compared_at}
use Rattle.leads.specs.InnerLead.{Readable, cleared_if, most_sum, Summed}
use Rattle.leads.specs.LeadAnswers.{work_after}

-- ---- an answer, and the trace that it means beside samples

-- a refusal is a fault, whatever the samples are
pub trace_err : (e : Refusal) (xs : List ℤ) → trace_of (number_of e) xs ≡ fault (number_of e)
trace_err Length xs = refl
trace_err RecordCheck xs = refl
trace_err Section0 xs = refl
trace_err Placement xs = refl
trace_err SectionCheck xs = refl
trace_err HeaderFields xs = refl
trace_err CodeTables xs = refl
trace_err LeadSections xs = refl
trace_err Disagreement xs = refl
trace_err NotFound xs = refl
trace_err Room xs = refl
trace_err NoValue xs = refl
trace_err OutOfRange xs = refl
trace_err LeftOver xs = refl
trace_err NoCode xs = refl
trace_err TooLong xs = refl
trace_err Request xs = refl
trace_err Date xs = refl
trace_err Index xs = refl

-- and has a number other than 0
pub number_some : (e : Refusal) → number_of e ≡ 0 → ⊥
number_some e h = let z = rw h at (trace_err e []) in unlike cc

-- samples that an answer does not refuse are those of the trace
pub was_ok : {T : Type 0} {r : Result T Refusal} (xs : List ℤ) {t : Trace} {x : T} → trace_of (refusal_in r) xs ≡ t → r ≡ Ok x → rebuilt xs ≡ t
was_ok xs told h = ap (λ (q : Result _ Refusal). trace_of (refusal_in q) xs) (sym h) ∙ told

-- ---- a lead's tables and its trace

-- Section 2, where the record has it
module _ (r : List ℕ) (b : Bool) (s : Bor (List ℕ)) (here : b ≡ present r 2) (section : s.now ≡ section_of r 2) where
  -- was judged
  pub tables_judged : tables_right r ≡ true → ForSome (then_some b s) (λ x. section2_right 1 x.now 16 ≡ true)
  unfolding tables_right
  tables_judged h = go b here
    where
      go : (b : Bool) → b ≡ present r 2 → ForSome (then_some b s) (λ x. section2_right 1 x.now 16 ≡ true)
      go true e x is =
          let judged = rw (← e) at h in
          let own : x ≡ s = cc in
          ap (λ (y : Bor (List ℕ)). section2_right 1 y.now 16) own ∙ ap (λ (l : List ℕ). section2_right 1 l 16) section ∙ judged
      go false e x is = unlike cc

  -- and has the record's tables
  pub tables_are : tables_held 16 (option_copied (then_some b s)) ≡ tables_of r
  unfolding tables_of
  tables_are = go b here
    where
      go : (b : Bool) → b ≡ present r 2 → tables_held 16 (option_copied (then_some b s)) ≡ cond (present r 2) (tables_in (section_of r 2) 16) []
      go true e = rw (← e, section)
      go false e = rw (← e)

-- where no beat was subtracted the lead is all that Section 6 holds
pub without_beat : (r : List ℕ) (k : ℕ) → beat_subtracted r ≡ false → stream_trace r 6 (sample_count_at r k) k ≡ trace_at r k
unfolding trace_at residual
without_beat r k e = rw e

-- and so are the structures compared; where one was, the beat's come before the lead's own
pub compared_own : (r : List ℕ) (k : ℕ) → beat_subtracted r ≡ false → compared_at r k ≡ stream_compared r 6 (sample_count_at r k) k
unfolding compared_at over_streams
compared_own r k e = rw e (omega arith)

pub compared_both : (r : List ℕ) (k : ℕ) → beat_subtracted r ≡ true
    → compared_at r k ≡ stream_compared r 5 (beat_sample_count r) k + stream_compared r 6 (sample_count_at r k) k
unfolding compared_at over_streams
compared_both r k e = rw e

-- a sum of a stream is one of the lead, of which more may be compared
pub summed_more : {n m : ℕ} (r : Result ℕ Refusal) → n ≡ m → Summed n most_sum r → Summed m (2 * most_sum) r
summed_more (Ok x) e h = (h.0 ∙ e, omega (arith, h.1))
summed_more (Err x) e h = tt

-- a lead from which a beat was subtracted
module _ (r : List ℕ) (k : ℕ) (here : beat_subtracted r ≡ true) where
  -- the beat's fault is the lead's
  pub beat_fault : {n : ℕ} → fault n ≡ stream_trace r 5 (beat_sample_count r) k → fault n ≡ trace_at r k
  unfolding trace_at
  beat_fault read = rw (here, ← read)

  module _ {beat : List ℤ} (read : rebuilt beat ≡ stream_trace r 5 (beat_sample_count r) k) where
    -- then the residual's is
    pub residual_fault : {n : ℕ} → fault n ≡ stream_trace r 6 (sample_count_at r k) k → fault n ≡ trace_at r k
    unfolding trace_at residual
    residual_fault behind = rw (here, ← read, ← behind)

    -- then sums are made
    pub beat_added : {xs : List ℤ} → rebuilt xs ≡ stream_trace r 6 (sample_count_at r k) k
        → {t : Trace} → t ≡ add_beat (section_of r 4) beat (first_sample (section_of r 3) k) xs → t ≡ trace_at r k
    unfolding trace_at residual
    beat_added behind sum = rw (here, ← read, ← behind) sum

-- a place that is not refused is that of a lead
pub placed : (r : List ℕ) (place : ℕ) → lead_refusal r place ≡ 0 → (1 ≤ place) × (place ≤ 32) × (beat_right r ≡ true)
placed r place h =
    let s = sound r place h in
    (s.first, omega (arith, s.last, (leads_right (section_of r 3) s.leads).most), s.beat)

-- ---- reading as a whole

module _ (r : List ℕ) (place room work n : ℕ) (e : n ≡ read_refusal r place room work) where
  -- one of 1 to 11 applies: nothing is read
  pub read_refused : (n ≡ 0 → ⊥) → read_trace r place room work ≡ fault n
  unfolding read_trace
  read_refused h = rw (differ e refl h, ← e)

  -- none does
  pub read_on : n ≡ 0 → read_trace r place room work ≡ trace_at r (place - 1)
  unfolding read_trace
  read_on z = rw (same e refl z)

module _ (r : List ℕ) (place room n : ℕ) (work : List ℤ) (e : n ≡ read_refusal r place room (length work)) where
  -- and the work space is as it was
  pub work_refused : (n ≡ 0 → ⊥) → work ≡ work_after r place room work
  unfolding work_after
  work_refused h = rw (differ e refl h)

  -- or as the reading leaves it
  pub work_read : n ≡ 0 → cleared_if (beat_subtracted r) work ≡ work_after r place room work
  unfolding work_after
  work_read z = rw (same e refl z) (go (beat_subtracted r))
    where
      go : (b : Bool) → cleared_if b work ≡ cond b (replicate (length work) (pos 0)) work
      go true = refl
      go false = refl

-- the same, of a refusal by its name
pub refused_trace : (r : List ℕ) (place room work : ℕ) (e : Refusal) → number_of e ≡ read_refusal r place room work
    → read_trace r place room work ≡ fault (number_of e)
refused_trace r place room work e found = read_refused r place room work (number_of e) found (number_some e)

-- and where none applies
module _ (r : List ℕ) (place room : ℕ) (work : List ℤ) (none : read_refusal r place room (length work) ≡ 0) where
  pub trace_read : read_trace r place room (length work) ≡ trace_at r (place - 1)
  trace_read = read_on r place room (length work) 0 (sym none) refl

  pub work_cleared : work_after r place room work ≡ cleared_if (beat_subtracted r) work
  work_cleared = sym (work_read r place room 0 work (sym none) refl)

-- a lead that none of 1 to 11 refuses can be read
pub readable : (r : List ℕ) (place room work : ℕ) → read_refusal r place room work ≡ 0
    → (1 ≤ place) × Readable r (place - 1) work × (sample_count_at r (place - 1) ≤ room)
unfolding read_refusal room_right
readable r place room work h =
    let k = place - 1 in
    let p = both_passed (lead_refusal r place) _ h in
    let q = (and-eq-true_iff (leb (sample_count_at r k) room) _).0 (kept_first (room_right r k room work) 10 _ p.1).0 in
    let s = sound r place p.0 in
    let most = (leads_right (section_of r 3) s.leads).most in
    let inside : k < lead_count_of r = omega (arith, s.first, s.last) in
    let whole : Readable r k work =
    record {
      tables = s.tables;
      beat = s.beat;
      place = inside;
      leads = most;
      count = (lead_samples (section_of r 3) k s.leads inside).1;
      beat_room = λ b. leb-true (beat_sample_count r) work (asked (beat_subtracted r) (leb (beat_sample_count r) work) q.1 b);
    } in
    (s.first, whole, leb-true (sample_count_at r k) room q.0)

pub lead_readable : (r : List ℕ) (place room work : ℕ) → read_refusal r place room work ≡ 0 → Readable r (place - 1) work
lead_readable r place room work h = (readable r place room work h).1

-- the lead at a place from 1 to 32
pub lead_there : (r : List ℕ) (place room work : ℕ) → read_refusal r place room work ≡ 0
    → (1 ≤ place) × (place ≤ 32) × (sample_count_at r (place - 1) ≤ 65536) × (sample_count_at r (place - 1) ≤ room)
lead_there r place room work h =
    let s = readable r place room work h in
    (s.0, omega (arith, s.1.place, s.1.leads), s.1.count, s.2)

-- a lead has as many samples as Section 3 says
residual_length : (r : List ℕ) (k : ℕ) (ys : List ℤ) → residual r k ≡ rebuilt ys → length ys ≡ sample_count_at r k
unfolding residual stream_trace
residual_length r k ys h = rebuilt_length (tables_of r) _ (sample_count_at r k) _ ys h

pub trace_length : (r : List ℕ) (k : ℕ) (xs : List ℤ) → rebuilt xs ≡ trace_at r k → length xs ≡ sample_count_at r k
unfolding trace_at
trace_length r k xs h = go (beat_subtracted r) (stream_trace r 5 (beat_sample_count r) k) (residual r k) (residual_length r k) h
  where
    sums : List ℤ → List ℤ → Trace
    sums bs ys = add_beat (section_of r 4) bs (first_sample (section_of r 3) k) ys

    go : (b : Bool) (beat behind : Trace) → ((ys : List ℤ) → behind ≡ rebuilt ys → length ys ≡ sample_count_at r k)
        → rebuilt xs ≡ cond b (after_trace beat (λ bs. after_trace behind (sums bs))) behind → length xs ≡ sample_count_at r k
    go false beat behind g e = g xs (sym e)
    go true (fault n) behind g e = unlike cc
    go true (rebuilt bs) (fault n) g e = unlike cc
    go true (rebuilt bs) (rebuilt ys) g e = added_length (section_of r 4) bs (first_sample (section_of r 3) k) ys xs (sym e) ∙ g ys refl
