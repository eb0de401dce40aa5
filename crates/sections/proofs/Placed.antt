-- A section of a record that keeps rules 4 and 5, cut out of it: how long it is, and that it is sound. Assumes nothing.
use Prim.Native.Nat.{ℕ, ◌+◌, ◌-◌, ◌%◌, ◌≤◌, ◌<◌}
use mathlib.Core.Path.{◌≡◌, refl, sym, ◌∙◌}
use mathlib.Core.Bool.{Bool, true, false, ◌&&◌, and-eq-true_iff}
use mathlib.Core.List.{List}
use mathlib.Core.Logic.{◌⊎◌, inl, inr}
use native.Mathlib.Omega.{arith}
use borrow.Author.Tests.{leb-true, ltb-true, eqb-true, eq-eqb, ne_eqb}
use lib.Dec.{leb, ltb, eqb}
use lib.ListN.{length}
use Rattle.wire.specs.Numbers.{number_at, part}
use Rattle.wire.specs.RuleWords.{all_in}
use Rattle.wire.proofs.Laws.{unlike}
use Rattle.wire.proofs.Places.{Stands, part_length}
use Rattle.pointers.specs.Pointers.{section0_length, id_of, length_of, index_of, start_of, end_of, section_of}
use Rattle.record.specs.RecordRules.{holds_check, place_right, header_repeats, sections_apart, placed_right, section_check_right}
use Rattle.sections.specs.Sections.{usable, section_at}
use Rattle.sections.proofs.Parts.{stands_number, stands_check, part_stands}
use Rattle.sections.proofs.Sound.{Sound, sound_usable}

-- ---- rule 4

-- all that it asks of a section that is present
pub record Placed (r : List ℕ) (k : ℕ) : Type 0 where
  pub even : length_of r k % 2 ≡ 0
  pub least : 16 ≤ length_of r k
  pub after : 6 + section0_length r < index_of r k
  pub inside : end_of r k ≤ length r
  pub own : number_at 2 r (start_of r k + 2) ≡ id_of r k
  pub size : number_at 4 r (start_of r k + 4) ≡ length_of r k
  pub apart : all_in 1 k (sections_apart r k) ≡ true

placed_parts : (r : List ℕ) (k : ℕ) → (place_right r k && (header_repeats r k && all_in 1 k (sections_apart r k))) ≡ true → Placed r k
unfolding place_right header_repeats
placed_parts r k h =
    let a = (and-eq-true_iff (place_right r k) _).0 h in
    let b = (and-eq-true_iff (eqb (length_of r k % 2) 0) _).0 a.0 in
    let c = (and-eq-true_iff (leb 16 (length_of r k)) _).0 b.1 in
    let d = (and-eq-true_iff (ltb (6 + section0_length r) (index_of r k)) _).0 c.1 in
    let e = (and-eq-true_iff (header_repeats r k) _).0 a.1 in
    let f = (and-eq-true_iff (eqb (number_at 2 r (start_of r k + 2)) (id_of r k)) _).0 e.0 in
    record {
      even = eqb-true (length_of r k % 2) 0 b.0;
      least = leb-true 16 (length_of r k) c.0;
      after = ltb-true (6 + section0_length r) (index_of r k) d.0;
      inside = leb-true (end_of r k) (length r) d.1;
      own = eqb-true (number_at 2 r (start_of r k + 2)) (id_of r k) f.0;
      size = eqb-true (number_at 4 r (start_of r k + 4)) (length_of r k) f.1;
      apart = e.1;
    }

-- a section is absent, or the rule says all that
pub placed_cases : (r : List ℕ) (k : ℕ) → placed_right r k ≡ true → (length_of r k ≡ 0) ⊎ Placed r k
unfolding placed_right
placed_cases r k h = go (eqb (length_of r k) 0) refl
  where
    go : (b : Bool) → eqb (length_of r k) 0 ≡ b → (length_of r k ≡ 0) ⊎ Placed r k
    go true e = inl (eqb-true (length_of r k) 0 e)
    go false e = inr (placed_parts r k (rw e at h))

-- no place is in two sections that are apart
pub apart_never : (r : List ℕ) (k j p : ℕ) → sections_apart r k j ≡ true
    → start_of r j ≤ p → p < end_of r j → start_of r k ≤ p → p < end_of r k → ⊥
unfolding sections_apart
apart_never r k j p h a b c d =
    go (eqb (length_of r j) 0) refl (leb (end_of r j) (start_of r k)) refl (leb (end_of r k) (start_of r j)) refl
  where
    go : (x : Bool) → eqb (length_of r j) 0 ≡ x → (y : Bool) → leb (end_of r j) (start_of r k) ≡ y
        → (z : Bool) → leb (end_of r k) (start_of r j) ≡ z → ⊥
    go true e y f z g = absurd (omega (arith, eqb-true (length_of r j) 0 e))
    go false e true f z g = absurd (omega (arith, leb-true (end_of r j) (start_of r k) f))
    go false e false f true g = absurd (omega (arith, leb-true (end_of r k) (start_of r j) g))
    go false e false f false g = let t = rw (e, f, g) at h in unlike cc

-- ---- the section

module _ (r : List ℕ) (k : ℕ) (cases : (length_of r k ≡ 0) ⊎ Placed r k) where
  pub length_section : length (section_of r k) ≡ length_of r k
  unfolding section_of
  length_section = go cases
    where
      go : (length_of r k ≡ 0) ⊎ Placed r k → length (part r (start_of r k) (end_of r k)) ≡ length_of r k
      go (inl e) = let n : end_of r k - start_of r k ≡ 0 = omega (arith, e) in rw (n, e)
      go (inr p) = part_length r (start_of r k) (end_of r k) p.inside ∙ omega arith

  -- it is sound where it is present and its check is right
  section_sound : section_check_right r k ≡ true → Placed r k → Sound (id_of r k) (section_of r k)
  unfolding section_of section_check_right
  section_sound check p =
      let s = section_of r k in
      let l = length_section in
      let there : Stands r (start_of r k) s = part_stands r (start_of r k) (end_of r k) (omega arith) p.inside in
      let here = ne_eqb (length_of r k) 0 (λ e. absurd (omega (arith, p.least))) in
      let held : holds_check r (start_of r k) (start_of r k + length s) ≡ true = rw l (rw here at check) in
      record {
        even = omega (arith, l, p.even);
        least = omega (arith, l, p.least);
        own = sym (stands_number there 2 2 (omega (arith, l, p.least))) ∙ p.own;
        size = sym (stands_number there 4 4 (omega (arith, l, p.least))) ∙ p.size ∙ sym l;
        check = sym (stands_check there (omega (arith, l, p.least))) ∙ held;
      }

  -- so it is usable
  pub section_usable : section_check_right r k ≡ true → usable (section_at r k) ≡ true
  unfolding usable
  section_usable check = go cases
    where
      go : (length_of r k ≡ 0) ⊎ Placed r k → usable (section_at r k) ≡ true
      go (inl e) = rw (eq-eqb (length (section_of r k)) 0 (length_section ∙ e))
      go (inr p) = sound_usable (section_at r k) (section_sound check p)
