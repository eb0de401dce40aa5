-- The round trip from the writer's contract: where writing a job is not refused, the reader gives back what the output then begins with.
-- Assumes nothing.
use Prim.Native.Nat.{ℕ, zero, suc, ◌≤◌}
use mathlib.Core.Path.{◌≡◌, refl}
use mathlib.Core.Bool.{true, ◌&&◌, and-eq-true_iff}
use mathlib.Core.List.{List}
use mathlib.Core.Option.{Option, none, some}
use native.Mathlib.Omega.{arith}
use borrow.Author.Tests.{leb-true}
use lib.Dec.{leb}
use lib.ListN.{length, take, drop}
use lib.Seq.{take-append_seam}
use Rattle.wire.proofs.Laws.{kept_first}
use Rattle.header.specs.Header.{section1_right}
use Rattle.encode.specs.Encoding.{tables_given_right, work_right}
use Rattle.compose.specs.declared.Written.{Written}
use Rattle.compose.specs.Writing.{Job, job_right, job_refusal, cut, SearchFindsAll, packed_all, all_short}
use Rattle.compose.specs.Writing.{record_of, record_refusal, written_as, record_out, RecordWriting, refused, answered}
use Rattle.trip.specs.GivenBack.{JobFits, GivenBack}
use Rattle.trip.proofs.Trip.{given_back}

-- what a job that is not refused before the search keeps
pub job_kept : (j : Job) (work : ℕ) → job_refusal j work ≡ 0
    → (job_right j ≡ true) × (section1_right 0 j.section1 0 ≡ true) × (tables_given_right j.section2 ≡ true)
unfolding job_refusal work_right
job_kept j work h =
    let a = kept_first (job_right j) 16 _ h in
    let b = kept_first (section1_right 0 j.section1 0) 5 _ a.1 in
    let c = kept_first (tables_given_right j.section2) 6 _ b.1 in
    (a.0, b.0, c.0)

-- and after it
found_kept : (j : Job) (room : ℕ) (streams : List (List ℕ)) → record_refusal j room (some streams) ≡ 0
    → (all_short streams ≡ true) × (length (record_of j streams) ≤ 1048576)
unfolding record_refusal
found_kept j room streams h =
    let n = length (record_of j streams) in
    let a = kept_first (all_short streams && leb n 1048576) 15 _ h in
    let b = (and-eq-true_iff (all_short streams) _).0 a.0 in
    (b.0, leb-true n 1048576 b.1)

-- the answer's bytes of the output
module _ (j : Job) (out : List ℕ) (bytes : JobFits j) (founds : List (Option (List ℕ)))
    (found : SearchFindsAll j.section2 j.order (cut j.counts j.samples) founds)
    (kept : (job_right j ≡ true) × (section1_right 0 j.section1 0 ≡ true) × (tables_given_right j.section2 ≡ true)) where
  -- by the refusal and the streams that it is for
  accepted : (o : Option (List (List ℕ))) → packed_all founds ≡ o → (n : ℕ) → record_refusal j (length out) o ≡ n
      → (written_as j n o).refusal ≡ 0 → GivenBack j (take (written_as j n o).bytes (record_out j n o out))
  unfolding record_refusal
  accepted none e zero f h = absurd (omega arith)
  accepted none e (suc n) f h = absurd (omega arith)
  accepted (some streams) e (suc n) f h = absurd (omega arith)
  accepted (some streams) e zero f h =
      let w = found_kept j (length out) streams f in
      let l = record_of j streams in
      rw (take-append_seam l (drop (length l) out))
      (given_back j founds streams bytes kept.0 kept.1 kept.2 found e w.0 w.1)

-- what writing answers with no refusal is given back
pub written_back : (j : Job) (work out : List ℕ) {answer : Written} {work' out' : List ℕ} → JobFits j → RecordWriting j work out answer work' out'
    → answer.refusal ≡ 0 → GivenBack j (take answer.bytes out')
written_back j work out bytes (refused n e) h = absurd (omega arith)
written_back j work out bytes (answered founds e found) h =
    accepted j out bytes founds found (job_kept j (length work) e) (packed_all founds) refl
    (record_refusal j (length out) (packed_all founds)) refl h
