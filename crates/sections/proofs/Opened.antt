-- A record laid out from sections that fit keeps rules 1 to 5, and the reader finds each section as it was given. Assumes nothing.
use Prim.Native.Nat.{ℕ, zero, suc, ◌+◌, ◌-◌, ◌*◌, ◌≤◌, ◌<◌}
use mathlib.Core.Path.{◌≡◌, refl, sym, ap, ◌∙◌}
use mathlib.Core.Bool.{true, not}
use mathlib.Core.List.{List}
use mathlib.Core.Logic.{◌⊎◌, inl, inr}
use native.Mathlib.Omega.{arith}
use borrow.Author.Tests.{le-leb, eq-eqb, ne_eqb}
use lib.Dec.{eqb}
use lib.ListN.{length}
use Rattle.wire.specs.Numbers.{number_at}
use Rattle.wire.proofs.Laws.{all_all}
use Rattle.wire.proofs.Every.{every_at}
use Rattle.wire.proofs.Places.{stands_byte, stands_written}
use Rattle.header.specs.Header.{section1_right}
use Rattle.wire.specs.Bounds.{fewest_pointers}
use Rattle.pointers.specs.Pointers.{data_at, id_of, present, section_of}
use Rattle.record.specs.RecordRules.{length_right, holds_check, record_check_right, letters_right, id_right, own_pointer_right, section0_right}
use Rattle.record.specs.RecordRules.{sections_apart, placed_right, all_placed_right, section_check_right, checks_right, fields_right}
use Rattle.record.specs.Opening.{open_refusal}
use Rattle.sections.specs.Sections.{absent_section, Section, nth, usable, pointer_count, section0_size, size_for, record_from, Fit}
use Rattle.sections.proofs.Parts.{stands_number, stands_check, checked_holds}
use Rattle.sections.proofs.Sound.{Sound, usable_cases}
use Rattle.sections.proofs.Listed.{place_least, place_apart, id_before, rising_at}
use Rattle.sections.proofs.Pointed.{absent_placed, absent_check, absent_apart, ends_before}
use Rattle.sections.proofs.Pointed.{pointed_present, pointed_start, pointed_end, pointed_section, pointed_placed, pointed_check}
use Rattle.sections.proofs.Frame as F

-- the numbers from 1 on are those that follow one
from_one : (P : ℕ → Type 0) (n : ℕ) → ((j : ℕ) → j < n → P (suc j)) → (k : ℕ) → 1 ≤ k → k < 1 + n → P k
from_one P n h zero a b = absurd (omega arith)
from_one P n h (suc j) a b = h j (omega arith)

module _ (v w : ℕ) (ss : List Section) (f : Fit ss) where
  abbrev r : List ℕ
  r = record_from v w ss

  -- ---- rules 1 to 3

  pub length_kept : length_right r ≡ true
  unfolding length_right size_for
  length_kept =
      let e = F.length_record v w ss in
      let said = stands_written 4 (size_for ss) (omega (arith, f.small)) (F.size_there v w ss) in
      rw (
        le-leb 142 (length r) (omega (arith, e, f.least)),
        le-leb (length r) 1048576 (omega (arith, e, f.small)),
        eq-eqb (number_at 4 r 2) (length r) (said ∙ sym e),
      )

  pub record_check_kept : record_check_right r ≡ true
  unfolding record_check_right
  record_check_kept = rw (F.record_checked v w ss) (checked_holds (F.record_body v w ss))

  letters_kept : letters_right r ≡ true
  unfolding letters_right
  letters_kept =
      let s = F.unjudged_there v w ss in
      rw (
        stands_byte s 2 (omega arith),
        stands_byte s 3 (omega arith),
        stands_byte s 4 (omega arith),
        stands_byte s 5 (omega arith),
        stands_byte s 6 (omega arith),
        stands_byte s 7 (omega arith),
      )

  own_kept : own_pointer_right r ≡ true
  unfolding own_pointer_right
  own_kept =
      let said = F.own_said v w ss f in
      rw (said.1, said.2, F.section0_length_lem v w ss f, eq-eqb (section0_size ss) (section0_size ss) refl)

  -- the ID of the pointer before the j-th section's
  id_before_lem : (j : ℕ) → j < length ss → id_of r j ≡ id_before 0 ss j
  unfolding id_before
  id_before_lem zero h = (F.own_said v w ss f).0
  id_before_lem (suc j) h = (F.pointed_at v w ss f j (omega arith)).own

  id_kept : (k : ℕ) → k < pointer_count ss → id_right r k ≡ true
  unfolding id_right
  id_kept zero h = eq-eqb (id_of r 0) 0 (F.own_said v w ss f).0
  id_kept (suc j) h =
      let e : suc j - 1 ≡ j = omega arith in
      let o : 1 + j ≡ suc j = omega arith in
      let rule = rw o at (rising_at ss 1 0 j (omega arith) f.order) in
      rw (e, (F.pointed_at v w ss f j (omega arith)).own, id_before_lem j (omega arith)) rule

  pub section0_kept : section0_right r ≡ true
  unfolding section0_right size_for
  section0_kept =
      let n = pointer_count ss in
      let q = F.section0_sound v w ss f in
      let id = stands_number (F.section0_there v w ss) 2 2 (omega (arith, q.least)) ∙ q.own in
      let ids = all_all (id_right r) 0 n (λ k a b. id_kept k b) in
      let least = le-leb fewest_pointers n f.least in
      let whole = eq-eqb (section0_size ss) (16 + 10 * n) refl in
      let inside = le-leb (6 + section0_size ss) (length r) (omega (arith, F.length_record v w ss)) in
      rw (id, letters_kept, F.count_is v w ss f, F.section0_length_lem v w ss f, least, whole, inside, own_kept, ids)

  -- ---- each section

  pub id_given : (j : ℕ) → j < length ss → id_of r (suc j) ≡ (nth ss j).id
  id_given j h = (F.pointed_at v w ss f j h).own

  pub section_given : (j : ℕ) → j < length ss → section_of r (suc j) ≡ (nth ss j).bytes
  section_given j h = pointed_section (F.pointed_at v w ss f j h)

  pub present_given : (j : ℕ) → j < length ss → present r (suc j) ≡ not (eqb (length (nth ss j).bytes) 0)
  present_given j h = pointed_present (F.pointed_at v w ss f j h)

  -- absent or sound
  case_at : (j : ℕ) → j < length ss → (length (nth ss j).bytes ≡ 0) ⊎ Sound (nth ss j).id (nth ss j).bytes
  case_at j h = usable_cases (nth ss j) (every_at usable (absent_section 0) ss f.each j h)

  -- ---- rules 4 and 5

  -- it is apart from each one before it
  apart_at : (i j : ℕ) → i < j → j < length ss → 0 < length (nth ss j).bytes → sections_apart r (suc j) (suc i) ≡ true
  apart_at i j a b some = go (case_at i (omega arith))
    where
      go : (length (nth ss i).bytes ≡ 0) ⊎ Sound (nth ss i).id (nth ss i).bytes → sections_apart r (suc j) (suc i) ≡ true
      go (inl e) = absent_apart r (suc i) ((F.pointed_at v w ss f i (omega arith)).size ∙ e) (suc j)
      go (inr q) =
          let end = pointed_end (F.pointed_at v w ss f i (omega arith)) (omega (arith, q.least)) in
          let start = pointed_start (F.pointed_at v w ss f j b) some in
          ends_before r (suc j) (suc i) (omega (arith, end, start, place_apart ss (F.base v w ss) i j a b))

  placed_at : (j : ℕ) → j < length ss → placed_right r (suc j) ≡ true
  placed_at j h = go (case_at j h)
    where
      go : (length (nth ss j).bytes ≡ 0) ⊎ Sound (nth ss j).id (nth ss j).bytes → placed_right r (suc j) ≡ true
      go (inl e) = absent_placed r (suc j) ((F.pointed_at v w ss f j h).size ∙ e)
      go (inr q) =
          let behind = place_least ss (F.base v w ss) j in
          let apart = from_one (λ k. sections_apart r (suc j) k ≡ true) j (λ i a. apart_at i j a h (omega (arith, q.least))) in
          let all = all_all (sections_apart r (suc j)) 1 (suc j) (λ k a b. apart k a (omega arith)) in
          pointed_placed (F.pointed_at v w ss f j h) q (omega (arith, F.section0_length_lem v w ss f, behind)) all

  check_at : (j : ℕ) → j < length ss → section_check_right r (suc j) ≡ true
  check_at j h = go (case_at j h)
    where
      go : (length (nth ss j).bytes ≡ 0) ⊎ Sound (nth ss j).id (nth ss j).bytes → section_check_right r (suc j) ≡ true
      go (inl e) = absent_check r (suc j) ((F.pointed_at v w ss f j h).size ∙ e)
      go (inr q) = pointed_check (F.pointed_at v w ss f j h) q

  pub placed_kept : all_placed_right r ≡ true
  unfolding all_placed_right
  placed_kept =
      let n = length ss in
      let some = ne_eqb (length (nth ss 0).bytes) 0 (λ e. absurd (omega (arith, f.first))) in
      let first = present_given 0 (omega (arith, f.least)) ∙ ap not some in
      let all = all_all (placed_right r) 1 (1 + n) (from_one (λ k. placed_right r k ≡ true) n placed_at) in
      rw (first, F.count_is v w ss f, all)

  section0_check : holds_check r 6 (6 + section0_size ss) ≡ true
  section0_check =
      let q = F.section0_sound v w ss f in
      rw (F.length_section0 v w ss) at (stands_check (F.section0_there v w ss) (omega (arith, q.least)) ∙ q.check)

  pub checks_kept : checks_right r ≡ true
  unfolding checks_right
  checks_kept =
      let n = length ss in
      let all = all_all (section_check_right r) 1 (1 + n) (from_one (λ k. section_check_right r k ≡ true) n check_at) in
      rw (F.section0_length_lem v w ss f, section0_check, F.count_is v w ss f, all)

  -- the record opens, where Section 1's data keep their rule
  pub opens_from : section1_right 1 (nth ss 0).bytes data_at ≡ true → open_refusal r ≡ 0
  unfolding open_refusal fields_right
  opens_from right =
      let first = section_given 0 (omega (arith, f.least)) in
      rw (length_kept, record_check_kept, section0_kept, placed_kept, checks_kept, first, right)
