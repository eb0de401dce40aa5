-- A section that is where its pointer says is cut out by the reader as it is; a sound one keeps the rules of its place, its header and its
-- check, and an absent one breaks none. Assumes nothing.
use Prim.Native.Nat.{ℕ, ◌+◌, ◌-◌, ◌%◌, ◌≤◌, ◌<◌}
use mathlib.Core.Path.{◌≡◌, refl, sym, ap, ◌∙◌}
use mathlib.Core.Bool.{true, false, not, or-true}
use mathlib.Core.List.{List, [], ◌∷◌}
use native.Mathlib.Omega.{arith}
use borrow.Author.Tests.{le-leb, lt-ltb, eq-eqb, ne_eqb}
use lib.Dec.{eqb}
use lib.ListN.{length}
use Rattle.wire.specs.Numbers.{part}
use Rattle.wire.specs.RuleWords.{all_in}
use Rattle.wire.proofs.Places.{Stands, stands_part, stands_end, stands_at}
use Rattle.pointers.specs.Pointers.{section0_length, id_of, length_of, index_of, present, start_of, end_of, section_of}
use Rattle.record.specs.RecordRules.{place_right, header_repeats, sections_apart, placed_right, section_check_right}
use Rattle.sections.specs.Sections.{index_for}
use Rattle.sections.proofs.Parts.{stands_number, stands_check}
use Rattle.sections.proofs.Sound.{Sound}

-- pointer k has the section's ID, length and index, and the section is there
pub record Pointed (r : List ℕ) (k place id : ℕ) (s : List ℕ) : Type 0 where
  pub own : id_of r k ≡ id
  pub size : length_of r k ≡ length s
  pub index : index_of r k ≡ index_for s place
  pub there : Stands r place s

pub index_given : (s : List ℕ) (place : ℕ) → 0 < length s → index_for s place ≡ 1 + place
unfolding index_for
index_given [] place h = absurd (omega arith)
index_given (b ∷ s) place h = refl

-- ---- an absent section

module _ (r : List ℕ) (k : ℕ) (e : length_of r k ≡ 0) where
  absent_present : present r k ≡ false
  absent_present = rw (eq-eqb (length_of r k) 0 e)

  pub absent_placed : placed_right r k ≡ true
  unfolding placed_right
  absent_placed = rw absent_present

  pub absent_check : section_check_right r k ≡ true
  unfolding section_check_right
  absent_check = rw absent_present

  pub absent_apart : (j : ℕ) → sections_apart r j k ≡ true
  unfolding sections_apart
  absent_apart j = rw absent_present

-- ---- any section

-- one that ends before another begins is apart from it
pub ends_before : (r : List ℕ) (k j : ℕ) → end_of r j ≤ start_of r k → sections_apart r k j ≡ true
unfolding sections_apart
ends_before r k j h = rw (le-leb (end_of r j) (start_of r k) h) (or-true (not (present r j)))

module _ {r : List ℕ} {k place id : ℕ} {s : List ℕ} (p : Pointed r k place id s) where
  -- it is present where it has bytes
  pub pointed_present : present r k ≡ not (eqb (length s) 0)
  pointed_present = rw p.size

  pub pointed_start : 0 < length s → start_of r k ≡ place
  pointed_start h = omega (arith, p.index, index_given s place h)

  pub pointed_there : 0 < length s → Stands r (start_of r k) s
  pointed_there h = stands_at (sym (pointed_start h)) p.there

  pub pointed_end : 0 < length s → end_of r k ≡ place + length s
  pointed_end h = rw (pointed_start h, p.size)

  -- the reader cuts it out, also where it is absent
  pub pointed_section : section_of r k ≡ s
  unfolding section_of
  pointed_section = go s refl
    where
      go : (x : List ℕ) → s ≡ x → part r (start_of r k) (end_of r k) ≡ s
      go [] e = let n : end_of r k - start_of r k ≡ 0 = omega (arith, p.size, ap length e) in rw (n, e)
      go (b ∷ x) e = let h : 0 < length s = rw e (omega arith) in rw (pointed_end h, pointed_start h) (stands_part p.there)

  -- ---- a sound one

  module _ (q : Sound id s) where
    some : 0 < length s
    some = omega (arith, q.least)

    pointed_place : 6 + section0_length r ≤ place → place_right r k ≡ true
    unfolding place_right
    pointed_place behind =
        let index = p.index ∙ index_given s place some in
        let even = eq-eqb (length s % 2) 0 q.even in
        let least = le-leb 16 (length s) q.least in
        let after = lt-ltb (6 + section0_length r) (1 + place) (omega arith) in
        let inside = le-leb (place + length s) (length r) (stands_end p.there) in
        rw (pointed_end some, p.size, index, even, least, after, inside)

    pointed_header : header_repeats r k ≡ true
    unfolding header_repeats
    pointed_header =
        let own = stands_number p.there 2 2 (omega (arith, q.least)) ∙ q.own in
        let size = stands_number p.there 4 4 (omega (arith, q.least)) ∙ q.size in
        rw (pointed_start some, p.own, p.size, own, size, eq-eqb id id refl, eq-eqb (length s) (length s) refl)

    -- all of rule 4, where it is apart from those before it
    pub pointed_placed : 6 + section0_length r ≤ place → all_in 1 k (sections_apart r k) ≡ true → placed_right r k ≡ true
    unfolding placed_right
    pointed_placed behind apart =
        let here = pointed_present ∙ ap not (ne_eqb (length s) 0 (λ e. absurd (omega (arith, some)))) in
        rw (here, pointed_place behind, pointed_header, apart)

    -- rule 5
    pub pointed_check : section_check_right r k ≡ true
    unfolding section_check_right
    pointed_check =
        let check = stands_check p.there (omega (arith, q.least)) ∙ q.check in
        rw (pointed_end some, pointed_start some, check) (or-true (not (present r k)))
