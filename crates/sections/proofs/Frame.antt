-- A record laid out from sections: its length, where its parts are, and what its pointers say. Assumes nothing.
use Prim.Native.Nat.{ℕ, suc, ◌+◌, ◌*◌, ◌≤◌, ◌<◌}
use mathlib.Core.Path.{◌≡◌, refl, ap, ◌∙◌}
use mathlib.Core.List.{List, [], ◌∷◌, ◌++◌}
use native.Mathlib.Nat.{add-zero}
use native.Mathlib.Omega.{arith}
use lib.ListN.{length, length-append}
use Rattle.wire.specs.Numbers.{bytes_of}
use Rattle.wire.proofs.Laws.{length_bytes_of}
use Rattle.wire.proofs.Places.{Stands, stands_end, stands_inner, stands_first, stands_behind, stands_whole, stands_at, stands_written}
use Rattle.pointers.specs.Pointers.{section0_length, count_of, id_of, length_of, index_of}
use Rattle.layout.specs.Layout.{checked, letters, pointer_bytes}
use Rattle.layout.proofs.Laws.{length_checked, length_pointer_bytes}
use Rattle.sections.specs.Sections.{Section, nth, bodies, index_for, pointers_for, pointer_count, section0_size, section0_data, section0_bytes}
use Rattle.sections.specs.Sections.{size_for, record_from, Fit}
use Rattle.sections.proofs.Parts.{stands_number, checked_body}
use Rattle.sections.proofs.Sound.{Sound, with_unjudged, length_with, with_data, with_parts}
use Rattle.sections.proofs.Listed.{length_bodies, place_at, section_stands, pointer_of, length_pointers_for, pointer_stands, rising_small}
use Rattle.sections.proofs.Pointed.{Pointed}

-- ---- a pointer

-- the k-th says what was written there
pub pointer_said : (r : List ℕ) (k id size index : ℕ) → Stands r (22 + 10 * k) (pointer_bytes id size index)
    → id < 65536 → size < 4294967296 → index < 4294967296 → (id_of r k ≡ id) × (length_of r k ≡ size) × (index_of r k ≡ index)
unfolding pointer_bytes
pointer_said r k id size index s a b c =
    let x = bytes_of 2 id in
    let y = bytes_of 4 size in
    let z = bytes_of 4 index in
    let first = stands_inner s (stands_first x (y ++ z)) in
    let second = stands_inner s (stands_behind x (y ++ z) (stands_first y z)) in
    let third = stands_inner s (stands_behind x (y ++ z) (stands_behind y z (stands_whole z))) in
    let e : 22 + 10 * k + (length x + 0) ≡ 24 + 10 * k = omega (arith, length_bytes_of 2 id) in
    let f : 22 + 10 * k + (length x + (length y + 0)) ≡ 28 + 10 * k = omega (arith, length_bytes_of 2 id, length_bytes_of 4 size) in (
      stands_written 2 id a (stands_at (add-zero (22 + 10 * k)) first),
      stands_written 4 size b (stands_at e second),
      stands_written 4 index c (stands_at f third),
    )

index_most : (s : List ℕ) (place : ℕ) → index_for s place ≤ 1 + place
unfolding index_for
index_most [] place = omega arith
index_most (b ∷ s) place = omega arith

-- ---- the record

module _ (v w : ℕ) (ss : List Section) where
  abbrev r : List ℕ
  r = record_from v w ss

  -- where the sections begin
  abbrev pub base : ℕ
  base = 6 + section0_size ss

  -- its parts
  abbrev size : List ℕ
  size = bytes_of 4 (size_for ss)

  abbrev section0 : List ℕ
  section0 = section0_bytes v w ss

  abbrev own_pointer : List ℕ
  own_pointer = pointer_bytes 0 (section0_size ss) 7

  abbrev pub record_body : List ℕ
  record_body = size ++ (section0 ++ bodies ss)

  pub record_checked : r ≡ checked record_body
  unfolding record_from
  record_checked = refl

  -- ---- lengths

  length_data : length (section0_data ss) ≡ 10 * pointer_count ss
  unfolding section0_data
  length_data =
      length-append own_pointer (pointers_for base ss)
      ∙ omega (arith, length_pointer_bytes 0 (section0_size ss) 7, length_pointers_for ss base)

  pub length_section0 : length section0 ≡ section0_size ss
  unfolding section0_bytes
  length_section0 = length_with 0 (v ∷ (w ∷ letters)) (section0_data ss) refl ∙ omega (arith, length_data)

  -- 6 bytes, and those of the sections
  pub length_record : length r ≡ size_for ss
  unfolding size_for
  length_record =
      let a = length-append size (section0 ++ bodies ss) in
      let b = length-append section0 (bodies ss) in
      ap length record_checked
      ∙ length_checked record_body
      ∙ omega (arith, a, b, length_bytes_of 4 (size_for ss), length_section0, length_bodies ss)

  -- ---- where the parts are

  body_there : Stands r 2 record_body
  body_there = rw record_checked (checked_body record_body)

  pub size_there : Stands r 2 size
  size_there = stands_inner body_there (stands_first size (section0 ++ bodies ss))

  from0 : Stands r 6 (section0 ++ bodies ss)
  unfolding bytes_of
  from0 = stands_inner body_there (stands_behind size (section0 ++ bodies ss) (stands_whole (section0 ++ bodies ss)))

  pub section0_there : Stands r 6 section0
  section0_there = stands_inner from0 (stands_first section0 (bodies ss))

  bodies_there : Stands r base (bodies ss)
  bodies_there =
      let e : 6 + (length section0 + 0) ≡ base = omega (arith, length_section0) in
      stands_at e (stands_inner from0 (stands_behind section0 (bodies ss) (stands_whole (bodies ss))))

  -- the version bytes and the letters
  pub unjudged_there : Stands r 14 (v ∷ (w ∷ letters))
  unfolding section0_bytes
  unjudged_there = stands_inner section0_there (with_unjudged 0 (v ∷ (w ∷ letters)) (section0_data ss))

  pointers_there : Stands r 22 (own_pointer ++ pointers_for base ss)
  unfolding section0_bytes section0_data
  pointers_there = stands_inner section0_there (with_data 0 (v ∷ (w ∷ letters)) (section0_data ss) refl)

  own_there : Stands r 22 own_pointer
  own_there = stands_inner pointers_there (stands_first own_pointer (pointers_for base ss))

  pointer_there : (j : ℕ) → j < length ss → Stands r (22 + 10 * suc j) (pointer_of (nth ss j) (place_at base ss j))
  pointer_there j h =
      let e : 22 + (length own_pointer + 10 * j) ≡ 22 + 10 * suc j = omega (arith, length_pointer_bytes 0 (section0_size ss) 7) in
      stands_at e (stands_inner pointers_there (stands_behind own_pointer (pointers_for base ss) (pointer_stands ss base j h)))

  -- ---- what is read, where the sections fit

  module _ (f : Fit ss) where
    pub section0_sound : Sound 0 section0
    unfolding section0_bytes
    section0_sound =
        with_parts 0 (v ∷ (w ∷ letters)) (section0_data ss) refl (omega arith) (omega (arith, length_data, f.most))

    pub section0_length_lem : section0_length r ≡ section0_size ss
    section0_length_lem =
        let q = section0_sound in
        stands_number section0_there 4 4 (omega (arith, q.least)) ∙ q.size ∙ length_section0

    pub count_is : count_of r ≡ pointer_count ss
    unfolding count_of
    count_is = rw section0_length_lem (omega (arith, f.most))

    -- Section 0's own pointer
    pub own_said : (id_of r 0 ≡ 0) × (length_of r 0 ≡ section0_size ss) × (index_of r 0 ≡ 7)
    own_said = pointer_said r 0 0 (section0_size ss) 7 own_there (omega arith) (omega (arith, f.most)) (omega arith)

    -- every section is where its pointer says
    pub pointed_at : (j : ℕ) → j < length ss → Pointed r (suc j) (place_at base ss j) (nth ss j).id (nth ss j).bytes
    pointed_at j h =
        let s = nth ss j in
        let place = place_at base ss j in
        let there = section_stands ss base j h bodies_there in
        let end = stands_end there in
        let said =
        pointer_said r (suc j) s.id (length s.bytes) (index_for s.bytes place) (pointer_there j h)
        (rising_small ss 1 0 j h f.order)
        (omega (arith, end, length_record, f.small))
        (omega (arith, end, length_record, f.small, index_most s.bytes place)) in
        record { own = said.0; size = said.1; index = said.2; there = there }
