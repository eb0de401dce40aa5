-- Bits behind a stream for a lead's differences: up to 15 are ignored, and more give 14. So a packed stream is rebuilt to the samples.
-- Assumes nothing.
use Prim.Native.Nat.{ℕ, ◌+◌, ◌-◌, ◌*◌, ◌≤◌}
use mathlib.Core.Path.{◌≡◌, refl, ◌∙◌}
use mathlib.Core.Bool.{Bool, true, false, cond, and-eq-true_iff}
use mathlib.Core.List.{List, [], ◌∷◌, ◌++◌}
use native.Mathlib.Omega.{arith}
use borrow.Author.Tests.{le-leb}
use lib.Dec.{leb}
use lib.IntN.{ℤ, pos}
use lib.ListN.{length, replicate, length-replicate}
use Rattle.wire.specs.RuleWords.{every}
use Rattle.bits.specs.Bits.{bits_in}
use Rattle.tables.specs.declared.Structure.{Structure}
use Rattle.tables.specs.Section2.{table_right}
use Rattle.reading.proofs.Behind.{next_behind}
use Rattle.samples.specs.Differences.{stored_of, stored_from, differences}
use Rattle.samples.specs.Trace.{rebuilt, fault, fits16, behind, after_sample}
use Rattle.samples.proofs.Laws.{sample_stored}
use Rattle.traces.specs.Rebuilding.{most_left_over, rebuild_from, rebuild}
use Rattle.packing.specs.Packing.{bytes_for, packed}
use Rattle.packing.proofs.Laws.{packed_read}
use Rattle.shortest.specs.Shortest.{ReadsTo, Stream}
use Rattle.shortest.proofs.Laws.{bits_small, reads_none, reads_first}

-- a sample before those of a trace, or before a fault
behind_either : (x : ℤ) (xs : List ℤ) (b : Bool) → behind x (cond b (rebuilt xs) (fault 14)) ≡ cond b (rebuilt (x ∷ xs)) (fault 14)
behind_either x xs true = refl
behind_either x xs false = refl

module _ (n : ℕ) (tables : List (List Structure)) (right : every (table_right n) tables ≡ true) (order : ℕ) where
  -- from a place on, with the bits z behind
  rebuilt_from : (z : List ℕ) (xs : List ℤ) (place : ℕ) (last other : ℤ) (t : ℕ) (bs : List ℕ) → every fits16 xs ≡ true
      → ReadsTo tables t bs (stored_from order place last other xs)
      → rebuild_from tables order (length xs) place last other t (bs ++ z) ≡ cond (leb (length z) most_left_over) (rebuilt xs) (fault 14)
  unfolding rebuild_from stored_from every after_sample
  rebuilt_from z [] place last other t bs fit r = rw (reads_none r refl)
  rebuilt_from z (x ∷ xs) place last other t bs fit r =
      let f = reads_first (stored_of order place x last other) (stored_from order (place + 1) x last xs) r refl in
      let g = (and-eq-true_iff (fits16 x) (every fits16 xs)).0 fit in
      let e = next_behind n tables right z t bs (stored_of order place x last other) f.next f.rest f.gives in
      let later = rebuilt_from z xs (place + 1) x last f.next f.rest g.1 f.later in
      rw (e, sample_stored order place x last other, g.0, later) (behind_either x xs (leb (length z) most_left_over))

  module _ (xs : List ℤ) (bs : List ℕ) (fit : every fits16 xs ≡ true) (s : Stream tables (differences order xs) bs) where
    -- a stream, and whatever is left over behind it
    pub left_over : (z : List ℕ) → rebuild tables order (length xs) (bs ++ z) ≡ cond (leb (length z) most_left_over) (rebuilt xs) (fault 14)
    unfolding rebuild differences
    left_over z = rebuilt_from z xs 0 (pos 0) (pos 0) 1 bs fit s.reads

    -- no more is left over than may be
    pub left_few : (z : List ℕ) → length z ≤ most_left_over → rebuild tables order (length xs) (bs ++ z) ≡ rebuilt xs
    left_few z few = left_over z ∙ rw (le-leb (length z) most_left_over few)

    -- a packed stream has fewer than eight bits behind it
    pub stream_back : rebuild tables order (length xs) (bits_in (packed bs)) ≡ rebuilt xs
    stream_back =
        let k = 8 * bytes_for (length bs) - length bs in
        rw (packed_read bs (bits_small bs s.bits)) (left_few (replicate k 0) (omega (arith, length-replicate {A = ℕ} k 0)))
