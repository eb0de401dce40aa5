-- The theorem: a record laid out from sections that fit shows them. Assumes nothing.
use Prim.Native.Nat.{ℕ, suc, ◌+◌, ◌<◌}
use mathlib.Core.Path.{◌≡◌, refl, ◌∙◌}
use mathlib.Core.List.{List, [], ◌∷◌}
use native.Mathlib.Omega.{arith}
use borrow.Author.Tests.{eqb-true, lt-ltb}
use lib.ListN.{length, take}
use Rattle.wire.proofs.Places.{stands_byte}
use Rattle.pointers.specs.Pointers.{index_of, start_of}
use Rattle.sections.specs.Sections.{Section, nth, total_length, index_for, section0_size, record_from, Fit}
use Rattle.sections.specs.Shown.{Shows}
use Rattle.sections.proofs.Listed.{place_at, place_total, rising_at}
use Rattle.sections.proofs.Pointed.{pointed_start}
use Rattle.sections.proofs.Frame.{base, length_record, unjudged_there, count_is, pointed_at}
use Rattle.sections.proofs.Opened.{length_kept, record_check_kept, section0_kept, placed_kept, checks_kept}
use Rattle.sections.proofs.Opened.{id_given, section_given, present_given}

index_none : (s : List ℕ) (place : ℕ) → length s ≡ 0 → index_for s place ≡ 0
unfolding index_for
index_none [] place e = refl
index_none (b ∷ s) place e = absurd (omega arith)

module _ (v w : ℕ) (ss : List Section) (f : Fit ss) where
  absent_index : (j : ℕ) → j < length ss → length (nth ss j).bytes ≡ 0 → index_of (record_from v w ss) (suc j) ≡ 0
  absent_index j h e = (pointed_at v w ss f j h).index ∙ index_none (nth ss j).bytes (place_at (base v w ss) ss j) e

  start_at : (j : ℕ) → j < length ss → 0 < length (nth ss j).bytes
      → start_of (record_from v w ss) (suc j) ≡ 6 + section0_size ss + total_length (take j ss)
  start_at j h some = pointed_start (pointed_at v w ss f j h) some ∙ place_total ss (base v w ss) j h

  number_at : (j : ℕ) → j < 11 → (nth ss j).id ≡ suc j
  number_at j h =
      let o : 1 + j ≡ suc j = omega arith in
      let rule = rw o at (rising_at ss 1 0 j (omega (arith, f.least)) f.order) in
      eqb-true (nth ss j).id (suc j) (rw (lt-ltb (suc j) 12 (omega arith)) at rule)

  pub shows : Shows (record_from v w ss) v w ss
  shows = record {
    row1 = length_kept v w ss f;
    row2 = record_check_kept v w ss f;
    row3 = section0_kept v w ss f;
    row4 = placed_kept v w ss f;
    row5 = checks_kept v w ss f;
    size = length_record v w ss;
    versions = (stands_byte (unjudged_there v w ss) 0 (omega arith), stands_byte (unjudged_there v w ss) 1 (omega arith));
    count = count_is v w ss f;
    id = id_given v w ss f;
    number = number_at;
    section = section_given v w ss f;
    there = present_given v w ss f;
    start = start_at;
    absent = absent_index;
  }
