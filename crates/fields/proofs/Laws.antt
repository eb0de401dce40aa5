-- Laws that the proofs of this crate and of those above it cite. Assumes nothing.
use Prim.Native.Nat.{ℕ, ◌+◌, ◌≤◌}
use mathlib.Core.Path.{◌≡◌, refl, ap}
use mathlib.Core.Bool.{Bool, cond, ◌&&◌}
use mathlib.Core.List.{List, [], ◌∷◌}
use native.Mathlib.Omega.{arith}
use Rattle.std.proofs.lemmas.Bool.Decides.{nat_tests}
use lib.Dec.{eqb}
use lib.ListN.{length, length-take, length-drop}
use lib.Pointwise.{pointwise}
use borrow.Author.Tests.{eq-eqb}
use Rattle.std.specs.Prelude.{Some, Result, Ok}
use Rattle.header.specs.declared.Field.{Field}
use Rattle.header.specs.Fields.{fields_from, with_tag, occurring}
use Rattle.header.proofs.Laws.{found_within}
use Rattle.pointers.specs.Pointers.{start_of, section_of}
use Rattle.record.specs.Opening.{open_refusal, opens}
use Rattle.fields.specs.declared.Part.{Part}
use Rattle.fields.specs.Lookup.{field_place}
use Rattle.fields.specs.Identifier.{same}

-- of an opened record the first place is taken
pub place_opened : (r : List ℕ) (p q : Result Part ℕ) → open_refusal r ≡ 0 → cond (opens r) p q ≡ p
unfolding opens
place_opened r p q h = rw (eq-eqb (open_refusal r) 0 h)

-- a field that is found in Section 1 ends within the record
pub found_inside : (r : List ℕ) (n tag : ℕ) (f : Field) → occurring n (with_tag tag (fields_from (section_of r 1) 16)) ≡ Some f
    → (f.start ≤ f.end) × (start_of r 1 + f.end ≤ length r)
unfolding section_of
found_inside r n tag f h =
    let w = found_within n tag (section_of r 1) 16 f h in
    let e = w.end in
    let l = simp (length-take, length-drop) at e in
    (w.order, omega arith)

-- the place of a field lies within the record
pub place_inside : (r : List ℕ) (tag n : ℕ) (p : Part) → field_place r tag n ≡ Ok p → p.start + p.size ≤ length r
unfolding field_place
place_inside r tag n p h = grind (arith, nat_tests, found_inside)

-- lists of numbers that are compared one by one are compared as identifiers are
pub same_bytes : (a b : List ℕ) → pointwise eqb a b ≡ same a b
unfolding same
same_bytes [] [] = refl
same_bytes [] (y ∷ b) = refl
same_bytes (x ∷ a) [] = refl
same_bytes (x ∷ a) (y ∷ b) = ap (λ (t : Bool). eqb x y && t) (same_bytes a b)

-- what is known of the places of fields
pub ruleset places = (found_inside, place_inside)
