-- The result of the search decides: the refusals behind the search and the answer. Assumes nothing.
use Prim.Native.Nat.{ℕ, suc, ◌≤◌}
use mathlib.Core.Path.{◌≡◌, refl, sym, ◌∙◌, subst}
use mathlib.Core.Bool.{Bool, true, false, ◌&&◌, cond}
use mathlib.Core.List.{List, [], ◌∷◌, ◌++◌, map}
use mathlib.Core.Logic.{◌⊎◌, inl, inr}
use mathlib.Core.Option.{Option, none, some}
use native.Mathlib.Omega.{arith}
use borrow.Author.Tests.{leb-true, eq-eqb, eqb-true, eqb-false}
use lib.Dec.{leb, eqb}
use lib.ListN.{length, take, drop}
use Rattle.wire.specs.RuleWords.{every, unless}
use Rattle.packing.specs.Packing.{bytes_for, packed}
use Rattle.packing.proofs.Laws.{length_packed}
use Rattle.layout.specs.Layout.{section_bytes, zero_reserved, leads_data, streams_data, record_bytes}
use Rattle.layout.proofs.Laws.{length_leads_data, length_record_bytes}
use Rattle.encode.specs.Encoding.{work_searched}
use Rattle.refusals.specs.declared.Refusal.{Refusal}
use Rattle.refusals.specs.declared.Refusal.TheVariants.{Length, RecordCheck, Section0, Placement, SectionCheck, HeaderFields, CodeTables, LeadSections, Disagreement, NotFound, Room, NoValue, OutOfRange, LeftOver, NoCode, TooLong, Request, Date, Index}
use Rattle.refusals.specs.Refusals.{number_of, refusal_in}
use Rattle.std.specs.Prelude.{Result, Ok, Err}
use Rattle.compose.specs.Writing.{Job, job_refusal, cut, packed_all, all_short, record_of, record_refusal, written_as, record_out}
use Rattle.compose.specs.Writing.{RecordWriting, refused, answered}
use Rattle.compose.specs.InnerSizes.{number_with, number_for, SizedAs}
use Rattle.compose.specs.InnerJob.{front_size, size_with, refusal_for, written, Streamed}
use Rattle.compose.proofs.Laws.{job_listed}
use Rattle.compose.proofs.Streams.{sizes_streams}
use Rattle.compose.proofs.Lengths.{length_data, size_parts}

-- ---- the number of all leads

-- 15 where some lead has no stream, else 16 where some stream is too long
abbrev Judged : List (Option (List ℕ)) → Type 0
Judged founds =
    ((packed_all founds ≡ none) × (number_for founds ≡ 15))
    ⊎ ((streams : List (List ℕ)) × (packed_all founds ≡ some streams) × (number_for founds ≡ cond (all_short streams) 0 16))

with_none : (bs : List ℕ) → number_with (some bs) 15 ≡ 15
with_none bs = go (leb (bytes_for (length bs)) 65535)
  where
    go : (b : Bool) → ◌≡◌ {A = ℕ} (cond b 15 15) 15
    go true = refl
    go false = refl

with_some : (bs : List ℕ) (streams : List (List ℕ)) → number_with (some bs) (cond (all_short streams) 0 16) ≡ cond
    (all_short (packed bs ∷ streams)) 0 16
unfolding all_short every
with_some bs streams = rw (length_packed bs) (go (leb (bytes_for (length bs)) 65535) (all_short streams))
  where
    go : (b s : Bool) → ◌≡◌ {A = ℕ} (cond b (cond s 0 16) (cond (eqb (cond s 0 16) 15) 15 16)) (cond (b && s) 0 16)
    go true s = refl
    go false true = refl
    go false false = refl

judged : (founds : List (Option (List ℕ))) → Judged founds
unfolding packed_all number_for all_short every
judged [] = inr ([], refl, refl)
judged (none ∷ founds) = inl (refl, refl)
judged (some bs ∷ founds) = go (judged founds)
  where
    go : Judged founds → Judged (some bs ∷ founds)
    go (inl (e, n)) = inl (rw e, rw n (with_none bs))
    go (inr (streams, e, n)) = inr (packed bs ∷ streams, rw e, rw n (with_some bs streams))

-- nothing is refused
pub nothing_refused : (number size room : ℕ) → refusal_for number size room ≡ 0 → (number ≡ 0) × (size ≤ 1048576) × (size ≤ room)
nothing_refused number size room = go (eqb number 0) refl (leb size 1048576) refl (leb size room) refl
  where
    go : (b : Bool) → eqb number 0 ≡ b → (s : Bool) → leb size 1048576 ≡ s → (r : Bool) → leb size room ≡ r
        → cond b (unless s 16 (unless r 11 0)) number ≡ 0 → (number ≡ 0) × (size ≤ 1048576) × (size ≤ room)
    go true e true f true g z = (eqb-true number 0 e, leb-true size 1048576 f, leb-true size room g)
    go true e true f false g z = absurd (omega arith)
    go true e false f r g z = absurd (omega arith)
    go false e s f r g z = absurd (eqb-false number 0 e z)

-- no refusal has the number 0
pub refused_some : (e : Refusal) → (n : ℕ) × (number_of e ≡ suc n)
refused_some Length = (0, refl)
refused_some RecordCheck = (1, refl)
refused_some Section0 = (2, refl)
refused_some Placement = (3, refl)
refused_some SectionCheck = (4, refl)
refused_some HeaderFields = (5, refl)
refused_some CodeTables = (6, refl)
refused_some LeadSections = (7, refl)
refused_some Disagreement = (8, refl)
refused_some NotFound = (9, refl)
refused_some Room = (10, refl)
refused_some NoValue = (11, refl)
refused_some OutOfRange = (12, refl)
refused_some LeftOver = (13, refl)
refused_some NoCode = (14, refl)
refused_some TooLong = (15, refl)
refused_some Request = (16, refl)
refused_some Date = (23, refl)
refused_some Index = (25, refl)

module _ (j : Job) (sizes : List ℕ) (number : ℕ) (firsts : length j.firsts ≡ length j.counts)
    (ids : length j.ids ≡ length j.counts) (long : length sizes ≡ length j.counts)
    (S : SizedAs j.section2 j.order (cut j.counts j.samples) number sizes) where
  abbrev size : ℕ
  size = size_with (length j.section1) (length j.section2) sizes

  -- the record is so long, where the number is 0
  length_record : (streams : List (List ℕ)) → number ≡ 0 → packed_all S.founds ≡ some streams → length (record_of j streams) ≡ size
  unfolding record_of
  length_record streams z e =
      let short = subst (λ (n : ℕ). SizedAs j.section2 j.order (cut j.counts j.samples) n sizes) z S in
      let are : sizes ≡ map length streams = sizes_streams short (S.founds, S.all, e) in
      length_record_bytes j.version j.section1 j.section2 (leads_data j.flags j.firsts j.counts j.ids)
      (streams_data j.step j.interval j.order streams)
      ∙ rw (
        length_leads_data j.flags j.firsts j.counts j.ids firsts ids,
        length_data j.step j.interval j.order sizes streams are,
        long,
      )

  refusal_is : (room : ℕ) → refusal_for number size room ≡ record_refusal j room (packed_all S.founds)
  unfolding record_refusal
  refusal_is room = go (judged S.founds)
    where
      short : (streams : List (List ℕ)) → packed_all S.founds ≡ some streams → (s : Bool) → number ≡ cond s 0 16
          → refusal_for number size room ≡ unless (s && leb (length (record_of j streams)) 1048576) 16
          (unless (leb (length (record_of j streams)) room) 11 0)
      short streams e true n = rw (eq-eqb number 0 n, length_record streams n e)
      short streams e false n = rw n

      go : Judged S.founds → refusal_for number size room ≡ record_refusal j room (packed_all S.founds)
      go (inl (e, n)) = let is : number ≡ 15 = S.says ∙ n in rw (e, is)
      go (inr (streams, e, n)) = rw e (short streams e (all_short streams) (S.says ∙ n))

-- ---- the job

module _ (j : Job) (work out : List ℕ) where
  -- refused before the search
  pub wrote_refused : (e : Refusal) → number_of e ≡ job_refusal j (length work) → RecordWriting j work out (written (Err e)) work out
  wrote_refused e is =
      let n = refused_some e in
      rw n.1 (refused n.0 (sym is ∙ n.1))

module _ (j : Job) (work out : List ℕ) (asked : job_refusal j (length work) ≡ 0) (work' : List ℕ) (cleared : work' ≡ work_searched j.section2 work)
    (mid : List ℕ) where
  module _ {r : Result ℕ Refusal} (F : Streamed j out r mid) where
    abbrev long : ℕ
    long = size_with (length j.section1) (length j.section2) F.sizes

    abbrev founds : List (Option (List ℕ))
    founds = F.sized.founds

    decided : refusal_in r ≡ record_refusal j (length out) (packed_all founds)
    decided =
        let l = job_listed j (length work) asked in
        F.answer ∙ refusal_is j F.sizes F.number l.0 l.1 F.each F.sized (length out)

    searched_as : (n : ℕ) → refusal_in r ≡ n
        → RecordWriting j work out (written_as j n (packed_all founds)) work' (record_out j n (packed_all founds) out)
    searched_as n is = rw (cleared, sym is ∙ decided) (answered founds asked F.sized.all)

  -- a refusal
  pub wrote_judged : (e : Refusal) → Streamed j out (Err e) mid → RecordWriting j work out (written (Err e)) work' mid
  wrote_judged e F =
      let n = refused_some e in
      rw (F.same, n.1) (searched_as F (suc n.0) n.1)

  -- the record has room, and Section 6 lies within it
  pub put_room : (bytes : ℕ) → Streamed j out (Ok bytes) mid
      → (front_size (length j.section1) (length j.section2) (length j.counts) ≤ bytes) × (bytes ≤ 1048576) × (bytes ≤ length out)
  put_room bytes F =
      let w = nothing_refused F.number (long F) (length out) (sym F.answer) in
      let e = size_parts (length j.section1) (length j.section2) (length j.counts) F.sizes F.each in
      (omega (arith, F.put.0, e), omega (arith, F.put.0, w.1), omega (arith, F.put.0, w.2))

  -- the record
  pub wrote_put : (bytes : ℕ) → Streamed j out (Ok bytes) mid → (ys : List ℕ)
      → ((data6 : List ℕ) → drop (front_size (length j.section1) (length j.section2) (length j.counts)) (take bytes mid)
      ≡ section_bytes 6 j.version zero_reserved data6
      → ys ≡ record_bytes j.version j.section1 j.section2 (leads_data j.flags j.firsts j.counts j.ids) data6)
      → RecordWriting j work out (written (Ok bytes)) work' (ys ++ drop bytes mid)
  unfolding record_of
  wrote_put bytes F ys whole = go (judged F.sized.founds)
    where
      none_asked : F.number ≡ 0
      none_asked = (nothing_refused F.number (long F) (length out) (sym F.answer)).0

      go : Judged F.sized.founds → RecordWriting j work out (written (Ok bytes)) work' (ys ++ drop bytes mid)
      go (inl (f, n)) = absurd (omega (arith, none_asked, F.sized.says ∙ n))
      go (inr (streams, f, n)) =
          let l = job_listed j (length work) asked in
          let same : bytes ≡ length (record_of j streams) =
          F.put.0 ∙ sym (length_record j F.sizes F.number l.0 l.1 F.each F.sized streams none_asked f) in
          let put : ys ≡ record_of j streams =
          whole (streams_data j.step j.interval j.order streams) (F.put.1.1 streams (F.sized.founds, F.sized.all, f)) in
          rw (put, F.put.1.0, same) (rw f at (searched_as F 0 refl))
