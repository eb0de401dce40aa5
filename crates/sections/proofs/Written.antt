-- The record that the writer writes is laid out from sections, and they fit. Assumes nothing.
use Prim.Native.Nat.{ℕ, ◌+◌, ◌≤◌, ◌<◌}
use mathlib.Core.Path.{◌≡◌, refl, ap, ◌∙◌}
use mathlib.Core.Bool.{Bool, true, false, cond}
use mathlib.Core.List.{List, ◌∷◌, append-nil}
use native.Mathlib.Omega.{arith}
use borrow.Author.Tests.{ne_eqb}
use lib.Dec.{eqb}
use lib.ListN.{length}
use Rattle.wire.specs.RuleWords.{every}
use Rattle.layout.specs.Layout.{section_length, section2_size, section2_bytes, section_bytes, zero_reserved, letters}
use Rattle.layout.specs.Layout.{pointer_bytes, absent, pointers_data, record_size, record_bytes}
use Rattle.layout.proofs.Laws.{length_section_bytes, length_section2_bytes, length_record_bytes}
use Rattle.sections.specs.Sections.{Section, usable, bodies, total_length, index_for, pointers_for, section0_data, section0_bytes, size_for}
use Rattle.sections.specs.Sections.{record_from, rising, Fit, plain_section, four}
use Rattle.sections.proofs.Sound.{sound_usable, with_parts, plain_with}
use Rattle.sections.proofs.Pointed.{index_given}
use Rattle.sections.proofs.Frame.{length_record}

module _ (v : ℕ) (d1 d2 d3 d6 : List ℕ) where
  abbrev ss : List Section
  ss = four v d1 d2 d3 d6

  abbrev r : List ℕ
  r = record_bytes v d1 d2 d3 d6

  -- the lengths of its sections
  abbrev z1 : ℕ
  z1 = section_length (length d1)

  abbrev z2 : ℕ
  z2 = section2_size (length d2)

  abbrev z3 : ℕ
  z3 = section_length (length d3)

  abbrev z6 : ℕ
  z6 = section_length (length d6)

  size_at : (id : ℕ) (d : List ℕ) → length (section_bytes id v zero_reserved d) ≡ section_length (length d)
  size_at id d = length_section_bytes id v zero_reserved d refl

  -- ---- its pointers

  index_at : (id : ℕ) (d : List ℕ) (place : ℕ) → index_for (section_bytes id v zero_reserved d) place ≡ 1 + place
  index_at id d place = index_given (section_bytes id v zero_reserved d) place (omega (arith, size_at id d))

  -- Section 2's, whether it is given or not
  second_pointer : (place index : ℕ) → 1 + place ≡ index
      → pointer_bytes 2 (length (section2_bytes v d2)) (index_for (section2_bytes v d2) place)
      ≡ cond (eqb z2 0) (absent 2) (pointer_bytes 2 z2 index)
  unfolding section2_bytes index_for
  second_pointer place index h = go (eqb (length d2) 0) refl
    where
      go : (b : Bool) → eqb (length d2) 0 ≡ b
          → pointer_bytes 2 (length (section2_bytes v d2)) (index_for (section2_bytes v d2) place)
          ≡ cond (eqb z2 0) (absent 2) (pointer_bytes 2 z2 index)
      go true e = rw e refl
      go false e =
          let some = ne_eqb (section_length (length d2)) 0 (λ n. absurd (omega arith)) in
          rw (e, some, size_at 2 d2, index_at 2 d2 place, h)

  pointers_same : pointers_data z1 z2 z3 z6 ≡ section0_data ss
  unfolding pointers_data section0_data pointers_for index_for
  pointers_same =
      let l1 = length (section_bytes 1 v zero_reserved d1) in
      let l2 = length (section2_bytes v d2) in
      let l3 = length (section_bytes 3 v zero_reserved d3) in
      let s1 = size_at 1 d1 in
      let s2 = length_section2_bytes v d2 in
      let s3 = size_at 3 d3 in
      let e2 = second_pointer (142 + l1) (143 + z1) (omega (arith, s1)) in
      let e3 : index_for (section_bytes 3 v zero_reserved d3) (142 + l1 + l2) ≡ 143 + z1 + z2 =
      index_at 3 d3 (142 + l1 + l2) ∙ omega (arith, s1, s2) in
      let e6 : index_for (section_bytes 6 v zero_reserved d6) (142 + l1 + l2 + l3 + 0 + 0) ≡ 143 + z1 + z2 + z3 =
      index_at 6 d6 (142 + l1 + l2 + l3 + 0 + 0) ∙ omega (arith, s1, s2, s3) in
      rw (index_at 1 d1 142, e2, e3, e6, s1, s3, size_at 6 d6, append-nil (pointer_bytes 11 0 0))

  -- ---- the record

  pub as_sections : r ≡ record_from v v ss
  unfolding record_bytes record_from section0_bytes size_for total_length bodies
  as_sections =
      let same : record_size (length d1) (length d2) (length d3) (length d6) ≡ size_for ss =
      omega (arith, size_at 1 d1, length_section2_bytes v d2, size_at 3 d3, size_at 6 d6) in
      let zero = plain_with 0 v letters (pointers_data z1 z2 z3 z6) in
      rw (same, zero, pointers_same, append-nil (section_bytes 6 v zero_reserved d6))

  -- its sections fit, where it is within its bound
  module _ (small : length r ≤ 1048576) where
    plain_usable : (id : ℕ) (d : List ℕ) → id < 65536 → section_length (length d) < 4294967296
        → usable (plain_section id v d) ≡ true
    plain_usable id d a b =
        let parts = with_parts id (v ∷ (v ∷ zero_reserved)) d refl a b in
        sound_usable (plain_section id v d) (rw (plain_with id v zero_reserved d) parts)

    -- Section 2 has room
    second_room : z2 < 4294967296
    second_room = omega (arith, length_record_bytes v d1 d2 d3 d6, small)

    second_usable : usable (record { id = 2; bytes = section2_bytes v d2 }) ≡ true
    unfolding usable section2_bytes
    second_usable = go (eqb (length d2) 0) refl
      where
        go : (b : Bool) → eqb (length d2) 0 ≡ b → usable (record { id = 2; bytes = section2_bytes v d2 }) ≡ true
        go true e = rw e refl
        go false e =
            let z : z2 ≡ section_length (length d2) = rw e in
            rw e (plain_usable 2 d2 (omega arith) (rw z at second_room))

    pub four_fit : Fit ss
    unfolding rising every usable
    four_fit =
        let n = length_record_bytes v d1 d2 d3 d6 in
        let u1 = plain_usable 1 d1 (omega arith) (omega (arith, n, small)) in
        let u3 = plain_usable 3 d3 (omega arith) (omega (arith, n, small)) in
        let u6 = plain_usable 6 d6 (omega arith) (omega (arith, n, small)) in
        record {
          least = omega arith;
          most = omega arith;
          order = refl;
          each = rw (u1, second_usable, u3, u6);
          first = omega (arith, size_at 1 d1);
          small = omega (arith, small, ap length as_sections, length_record v v ss);
        }
