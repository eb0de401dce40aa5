-- What an opened record says of the patient: its first field with a tag, and its identifier, tag 2's bytes without their NUL. Assumes nothing.
use Prim.Native.Nat.{ℕ, suc, ◌+◌, ◌-◌, ◌≤◌, ◌<◌}
use mathlib.Core.Path.{◌≡◌, refl, sym}
use mathlib.Core.Bool.{Bool, true, not}
use mathlib.Core.List.{List, [], ◌∷◌, ◌++◌}
use native.Mathlib.Omega.{arith}
use Rattle.std.proofs.lemmas.Bool.Decides.{nat_tests}
use borrow.Author.Tests.{eqb-true}
use lib.Dec.{eqb}
use lib.ListN.{length, take, drop, length-take, length-drop, take-append-drop}
use lib.Seq.{take-take, take-suc, get_or-drop, length-take-le}
use Rattle.std.specs.Prelude.{Some}
use Rattle.wire.specs.Numbers.{byte_at, part}
use Rattle.wire.specs.RuleWords.{every, all_in}
use Rattle.wire.proofs.Every.{all_every}
use Rattle.wire.proofs.Laws.{unlike}
use Rattle.wire.proofs.Places.{Stands, stands_cut}
use Rattle.header.specs.declared.Field.{Field}
use Rattle.header.specs.Fields.{fields_from, with_tag, occurring, field_bytes, size_of}
use Rattle.header.specs.Header.{sole, found_keeps, is_identifier, has_size, tags_right, section1_right}
use Rattle.header.proofs.Laws.{Within, found_within}
use Rattle.pointers.specs.Pointers.{start_of, end_of, section_of}
use Rattle.record.specs.RecordRules.{fields_right}
use Rattle.record.specs.Opening.{open_refusal, opens}
use Rattle.fields.specs.Lookup.{field_place}
use Rattle.fields.specs.Recording.{field_of, identifier_of}
use Rattle.fields.proofs.Laws.{found_inside}

-- ---- a field of an opened record

-- a section lies in the record
section_stands : (r : List ℕ) (k : ℕ) → start_of r k ≤ length r → Stands r (start_of r k) (section_of r k)
unfolding section_of
section_stands r k h = record {
  front = take (start_of r k) r;
  rest = drop (end_of r k - start_of r k) (drop (start_of r k) r);
  split = rw (take-append-drop (end_of r k - start_of r k) (drop (start_of r k) r)) (sym (take-append-drop (start_of r k) r));
  place = length-take-le (start_of r k) r h;
}

-- the bytes that lookup shows are those of the first field with the tag in Section 1
field_shown : (r : List ℕ) (tag : ℕ) (f : Field) → opens r ≡ true → occurring 1 (with_tag tag (fields_from (section_of r 1) 16)) ≡ Some f
    → field_of r tag ≡ field_bytes (section_of r 1) f
unfolding field_of field_place
field_shown r tag f o h =
    let w = found_within 1 tag (section_of r 1) 16 f h in
    let i = found_inside r 1 tag f h in
    let e : start_of r 1 + f.start + (f.end - f.start) ≡ start_of r 1 + f.end = omega arith in
    rw (o, h, e) (stands_cut (section_stands r 1 (omega arith)) f.start f.end w.order w.end)

-- where there is one field, and it keeps a rule, that is the first
sole_first : (rule : Field → Bool) (l : List Field) → found_keeps rule (sole l) ≡ true
    → (f : Field) × (occurring 1 l ≡ Some f) × (rule f ≡ true)
unfolding sole occurring
sole_first rule [] h = unlike cc
sole_first rule (f ∷ []) h = (f, refl, h)
sole_first rule (f ∷ (g ∷ l)) h = unlike cc

-- an opened record keeps row 6
tags_kept : (r : List ℕ) → opens r ≡ true → tags_right (section_of r 1) (fields_from (section_of r 1) 16) ≡ true
unfolding opens open_refusal fields_right section1_right
tags_kept r o = grind (arith, nat_tests)

-- ---- the date

-- tag 25 has four bytes
pub date_size : (r : List ℕ) → opens r ≡ true → length (field_of r 25) ≡ 4
unfolding tags_right has_size
date_size r o =
    let s = section_of r 1 in
    let fs = fields_from s 16 in
    let kept = tags_kept r o in
    let c : found_keeps (has_size 4) (sole (with_tag 25 fs)) ≡ true = grind (arith, nat_tests, kept) in
    let (f, found, h) = sole_first (has_size 4) (with_tag 25 fs) c in
    let w = found_within 1 25 s 16 f found in
    let four = eqb-true (size_of f) 4 h in
    rw (field_shown r 25 f o found) (simp (length-take, length-drop) (omega arith))

-- ---- the identifier

-- the field of an opened record's identifier, and what its bytes keep
record Named (r : List ℕ) : Type 0 where
  field : Field
  shown : field_of r 2 ≡ field_bytes (section_of r 1) field
  within : Within (section_of r 1) 16 field
  least : 2 ≤ size_of field
  most : size_of field ≤ 64
  last : byte_at (section_of r 1) (field.end - 1) ≡ 0
  others : all_in field.start (field.end - 1) (λ i. not (eqb (byte_at (section_of r 1) i) 0)) ≡ true

named : (r : List ℕ) → opens r ≡ true → Named r
unfolding tags_right is_identifier
named r o =
    let s = section_of r 1 in
    let two = with_tag 2 (fields_from s 16) in
    let kept = tags_kept r o in
    let first : found_keeps (is_identifier s) (sole two) ≡ true = grind (arith, nat_tests, kept) in
    let (f, found, h) = sole_first (is_identifier s) two first in
    record {
      field = f;
      shown = field_shown r 2 f o found;
      within = found_within 1 2 s 16 f found;
      least = grind (arith, nat_tests);
      most = grind (arith, nat_tests);
      last = grind (arith, nat_tests);
      others = grind (arith, nat_tests);
    }

module _ (r : List ℕ) (n : Named r) where
  -- the identifier is all of the field's bytes but the last
  identifier_part : identifier_of r ≡ part (section_of r 1) n.field.start (n.field.end - 1)
  unfolding identifier_of
  identifier_part =
      let s = section_of r 1 in
      let f = n.field in
      let w = n.within in
      let l = n.least in
      let size : length (field_bytes s f) ≡ size_of f = simp (length-take, length-drop) (omega arith) in
      let e : f.end - 1 - f.start ≡ size_of f - 1 = omega arith in
      rw (n.shown, size, e) (take-take (size_of f - 1) (size_of f) (drop f.start s) (omega arith))

  -- so it has one byte less
  identifier_length : length (identifier_of r) ≡ size_of n.field - 1
  identifier_length =
      let w = n.within in
      let l = n.least in
      rw identifier_part (simp (length-take, length-drop) (omega arith))

-- lookup shows the identifier and the NUL that ends it
pub identifier_shown : (r : List ℕ) → opens r ≡ true → field_of r 2 ≡ identifier_of r ++ (0 ∷ [])
identifier_shown r o =
    let n = named r o in
    let s = section_of r 1 in
    let f = n.field in
    let w = n.within in
    let l = n.least in
    let d = f.end - 1 - f.start in
    let whole : f.end - f.start ≡ suc d = omega arith in
    let place : f.start + d ≡ f.end - 1 = omega arith in
    let inside : d < length (drop f.start s) = rw length-drop (omega arith) in
    rw (n.shown, whole, identifier_part r n, take-suc (drop f.start s) d 0 inside, get_or-drop f.start s d 0, place, n.last)

-- the identifier has 1 to 63 bytes, and none of them is NUL
pub record Identified (id : List ℕ) : Type 0 where
  pub least : 1 ≤ length id
  pub most : length id ≤ 63
  pub bytes : every (λ b. not (eqb b 0)) id ≡ true

pub identified : (r : List ℕ) → opens r ≡ true → Identified (identifier_of r)
identified r o =
    let n = named r o in
    let f = n.field in
    let w = n.within in
    let l = n.least in
    let m = n.most in
    let size = identifier_length r n in
    let rule : ℕ → Bool = λ b. not (eqb b 0) in
    record {
      least = omega arith;
      most = omega arith;
      bytes = rw (identifier_part r n, ← all_every rule (section_of r 1) f.start (f.end - 1) (omega arith)) n.others;
    }
