-- The fields of Section 1's data, moved on behind a section's header: what keeps its rule alone keeps it there, and the fields are the
-- same, sixteen places further on. Assumes nothing.
use Prim.Native.Nat.{ℕ, zero, suc, ◌+◌, ◌-◌}
use mathlib.Core.Path.{◌≡◌, refl, ap}
use mathlib.Core.Bool.{Bool, true, not, ◌&&◌, and-eq-true_iff}
use mathlib.Core.List.{List, [], ◌∷◌, map}
use native.Mathlib.Nat.{add_assoc}
use native.Mathlib.Omega.{arith}
use Rattle.std.proofs.lemmas.Bool.Decides.{nat_tests}
use borrow.Author.Tests.{leb-true}
use lib.Dec.{leb, eqb}
use Rattle.std.specs.Prelude.{Option, Some, None}
use Rattle.wire.specs.Numbers.{byte_at, number_at}
use Rattle.wire.specs.RuleWords.{all_in, ends_by}
use Rattle.wire.proofs.Places.{Moved, moved_number, moved_end, each_moved}
use Rattle.header.specs.declared.Field.{Field}
use Rattle.header.specs.Fields.{is_field, field_at, step_at, fields_from, fields_end, with_tag, occurring, size_of}
use Rattle.header.specs.Header.{ends_at, sole, found_keeps, is_identifier, has_size, any_field, tags_right, section1_right}
use Rattle.header.proofs.Laws.{along, fields_step, end_here, end_later}

-- a field moved on
abbrev pub moved : Field → Field
moved f = record { tag = f.tag; start = 16 + f.start; end = 16 + f.end }

abbrev pub moved_step : Option Field → Option Field
moved_step (Some f) = Some (moved f)
moved_step None = None

-- ---- lists of fields

tag_moved : (t : ℕ) (fs : List Field) → with_tag t (map moved fs) ≡ map moved (with_tag t fs)
unfolding with_tag
tag_moved t [] = refl
tag_moved t (f ∷ fs) = grind (arith, nat_tests, tag_moved t fs)

occurring_moved : (n : ℕ) (fs : List Field) → occurring n (map moved fs) ≡ moved_step (occurring n fs)
unfolding occurring
occurring_moved zero fs = refl
occurring_moved (suc n) [] = refl
occurring_moved (suc zero) (f ∷ fs) = refl
occurring_moved (suc (suc n)) (f ∷ fs) = occurring_moved (suc n) fs

sole_moved : (fs : List Field) → sole (map moved fs) ≡ moved_step (sole fs)
unfolding sole
sole_moved [] = refl
sole_moved (f ∷ []) = refl
sole_moved (f ∷ (g ∷ fs)) = refl

-- a rule that the moved field keeps where the field does
found_keeps_moved : (p q : Field → Bool) → ((f : Field) → p f ≡ true → q (moved f) ≡ true) → (s : Option Field) → found_keeps p s ≡ true
    → found_keeps q (moved_step s) ≡ true
found_keeps_moved p q h (Some f) e = h f e
found_keeps_moved p q h None e = e

-- the end of moved fields
end_moved : (at : ℕ) (fs : List Field) → fields_end (16 + at) (map moved fs) ≡ 16 + fields_end at fs
unfolding fields_end
end_moved at [] = refl
end_moved at (f ∷ fs) = end_moved f.end fs

-- ---- data s that lie in r behind a header

module _ {r s : List ℕ} (m : Moved r 16 s) where
  field_moved : (at : ℕ) → field_at r (16 + at) ≡ moved (field_at s at)
  unfolding field_at
  field_moved at =
      let e = rw (← add_assoc 16 at 1) at (moved_number m 2 (at + 1)) in
      let a : 16 + at + 3 ≡ 16 + (at + 3) = omega arith in
      let b : 16 + (at + 3) + number_at 2 s (at + 1) ≡ 16 + (at + 3 + number_at 2 s (at + 1)) = omega arith in
      rw (m.byte at, e, a, b)

  -- a whole field is one there too
  whole_moved : (at : ℕ) → is_field s at ≡ true → is_field r (16 + at) ≡ true
  unfolding is_field
  whole_moved at g =
      let e = rw (← add_assoc 16 at 1) at (moved_number m 2 (at + 1)) in
      let b = m.byte at in
      let l = m.least in
      grind (arith, nat_tests)

  -- a step that shows a field shows it there
  step_moved : (at : ℕ) (f : Field) → step_at s at ≡ Some f → step_at r (16 + at) ≡ Some (moved f)
  unfolding step_at
  step_moved at f g = grind (arith, nat_tests, whole_moved, field_moved)

  -- at an end mark there is no field
  step_end : (at : ℕ) → byte_at s at ≡ 255 → step_at r (16 + at) ≡ None
  unfolding step_at is_field
  step_end at e = let b = m.byte at in grind (arith, nat_tests)

  mark_there : (at : ℕ) → ends_at 0 s at ≡ true → byte_at s at ≡ 255
  unfolding ends_at
  mark_there at e = grind (arith, nat_tests)

  -- where the fields from a place on end at an end mark, those behind the header are the same, moved on
  abbrev Same : ℕ → Type 0
  Same at = ends_at 0 s (fields_end at (fields_from s at)) ≡ true → fields_from r (16 + at) ≡ map moved (fields_from s at)

  fields_turn : (at : ℕ) → ((f : Field) → step_at s at ≡ Some f → Same f.end) → Same at
  fields_turn at later e = go (step_at s at) refl
    where
      go : (t : Option Field) → step_at s at ≡ t → fields_from r (16 + at) ≡ map moved (fields_from s at)
      go None g =
          let z = step_end at (mark_there at (rw (end_here s at g) at e)) in
          rw (fields_step s at, fields_step r (16 + at), g, z)
      go (Some f) g =
          let z = step_moved at f g in
          rw (fields_step s at, fields_step r (16 + at), g, z)
          (ap (λ (l : List Field). moved f ∷ l) (later f g (rw (end_later s at f g) at e)))

  pub fields_moved : ends_at 0 s (fields_end 0 (fields_from s 0)) ≡ true → fields_from r 16 ≡ map moved (fields_from s 0)
  fields_moved = along s Same fields_turn 0

  -- the end mark, with the spare byte behind it
  ends_moved : (at : ℕ) → ends_at 0 s at ≡ true → ends_at 1 r (16 + at) ≡ true
  unfolding ends_at
  ends_moved at g =
      let e = rw (← add_assoc 16 at 1) at (moved_number m 2 (at + 1)) in
      let b = m.byte at in
      let last : ends_by 0 s (at + 3) ≡ true = grind (arith, nat_tests) in
      let end = rw (← add_assoc 16 at 3) at (moved_end m (at + 3) last) in
      grind (arith, nat_tests)

  -- the tags' rules
  identifier_moved : (f : Field) → is_identifier s f ≡ true → is_identifier r (moved f) ≡ true
  unfolding is_identifier all_in
  identifier_moved f g =
      let last = eqb (byte_at s (f.end - 1)) 0 in
      let others = all_in f.start (f.end - 1) (λ i. not (eqb (byte_at s i) 0)) in
      let p = (and-eq-true_iff (leb 2 (size_of f)) (leb (size_of f) 64 && (last && others))).0 g in
      let two = leb-true 2 (size_of f) p.0 in
      let q = p.1 in
      let size : 16 + f.end - (16 + f.start) ≡ f.end - f.start = omega arith in
      let end : 16 + f.end - 1 ≡ 16 + (f.end - 1) = omega arith in
      let count : 16 + (f.end - 1) - (16 + f.start) ≡ f.end - 1 - f.start = omega arith in
      let each-one =
      each_moved 16 (f.end - 1 - f.start) f.start (λ i. not (eqb (byte_at r i) 0)) (λ i. not (eqb (byte_at s i) 0))
      (λ i. ap (λ (b : ℕ). not (eqb b 0)) (m.byte i)) in
      rw (size, end, count, each-one, m.byte (f.end - 1), p.0) q

  size_moved : (n : ℕ) (f : Field) → has_size n f ≡ true → has_size n (moved f) ≡ true
  unfolding has_size
  size_moved n f g = let size : 16 + f.end - (16 + f.start) ≡ f.end - f.start = omega arith in rw size g

  tags_moved : (fs : List Field) → tags_right s fs ≡ true → tags_right r (map moved fs) ≡ true
  unfolding tags_right
  tags_moved fs g =
      let two : found_keeps (is_identifier s) (sole (with_tag 2 fs)) ≡ true = grind (arith, nat_tests) in
      let fourteen : found_keeps any_field (sole (with_tag 14 fs)) ≡ true = grind (arith, nat_tests) in
      let five : found_keeps (has_size 4) (sole (with_tag 25 fs)) ≡ true = grind (arith, nat_tests) in
      let six : found_keeps (has_size 3) (sole (with_tag 26 fs)) ≡ true = grind (arith, nat_tests) in
      let a = found_keeps_moved (is_identifier s) (is_identifier r) identifier_moved (sole (with_tag 2 fs)) two in
      let b = found_keeps_moved any_field any_field (λ f e. refl) (sole (with_tag 14 fs)) fourteen in
      let c = found_keeps_moved (has_size 4) (has_size 4) (size_moved 4) (sole (with_tag 25 fs)) five in
      let d = found_keeps_moved (has_size 3) (has_size 3) (size_moved 3) (sole (with_tag 26 fs)) six in
      simp (tag_moved, sole_moved, a, b, c, d)

  -- the rule's two parts
  pub mark_kept : section1_right 0 s 0 ≡ true → ends_at 0 s (fields_end 0 (fields_from s 0)) ≡ true
  unfolding section1_right
  mark_kept g = grind (arith, nat_tests)

  -- data that keep their rule keep it behind a header
  pub section1_moved : section1_right 0 s 0 ≡ true → section1_right 1 r 16 ≡ true
  unfolding section1_right
  section1_moved g =
      let tags : tags_right s (fields_from s 0) ≡ true = grind (arith, nat_tests) in
      let mark = mark_kept g in
      rw (fields_moved mark, end_moved 0 (fields_from s 0), ends_moved (fields_end 0 (fields_from s 0)) mark)
      (tags_moved (fields_from s 0) tags)

  -- and each field is there as in the data
  pub occurring_there : section1_right 0 s 0 ≡ true → (n t : ℕ)
      → occurring n (with_tag t (fields_from r 16)) ≡ moved_step (occurring n (with_tag t (fields_from s 0)))
  occurring_there g n t =
      rw (fields_moved (mark_kept g), tag_moved t (fields_from s 0)) (occurring_moved n (with_tag t (fields_from s 0)))
