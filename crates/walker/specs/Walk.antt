-- The part of Section 1 that a step of the walk shows (01, Header fields and the patient identifier), and the next step's place.
use Rattle.std.specs.Prelude.{ℕ, zero, suc, ◌≤◌, ◌≡◌, Bool, true, false, cond, List, [], ◌∷◌, map, length, Option, Some, None, ◌+◌, is_some, IfSome}
use Rattle.header.specs.declared.Field.{Field}
use Rattle.header.specs.Fields.{step_at, fields_from, shown_bytes, field_bytes}
use Rattle.pointers.specs.Pointers.{data_at, section_of}
use Rattle.record.specs.Opening.{opens}
use Rattle.fields.specs.Lookup.{walk_place, part_bytes}
use Rattle.walker.specs.declared.Shown.{Shown}
use Rattle.walker.specs.declared.Walker.{Walker}

-- a field is shown, or the end
abbrev pub shown_more : Option Field → Bool
shown_more (Some f) = true
shown_more None = false

-- its tag, and where its bytes start; at the end 0 and 0
abbrev pub shown_tag : Option Field → ℕ
shown_tag (Some f) = f.tag
shown_tag None = 0

abbrev pub shown_start : Option Field → ℕ
shown_start (Some f) = f.start
shown_start None = 0

-- the next step is at the field's end; the end is not left
abbrev pub place_after : ℕ → Option Field → ℕ
place_after at (Some f) = f.end
place_after at None = at

-- what a walker over s at a place shows in at most this many steps, each a tag and its bytes, up to the end
unfoldable pub shown_by : ℕ → List ℕ → ℕ → List (ℕ × List ℕ)
shown_by zero s at = []
shown_by (suc steps) s at =
    cond (shown_more (step_at s at))
    ((shown_tag (step_at s at), shown_bytes s (step_at s at)) ∷ shown_by steps s (place_after at (step_at s at)))
    []

-- a field as a step shows it: its tag and its bytes
abbrev pub shown_field : List ℕ → Field → ℕ × List ℕ
shown_field s f = (f.tag, field_bytes s f)

-- the fields that a walker has still to show
abbrev pub left : Walker → List Field
left w = fields_from w.section.now w.at

-- a step of a walker: the field at its place is shown, its bytes as a part of the section itself, and the walker goes behind it; at the
-- end it stays
pub record Steps (w : Walker) (shown : Option Shown) (after : Walker) : Type 0 where
  pub more : is_some shown ≡ shown_more (step_at w.section.now w.at)
  pub tag : IfSome shown (λ x. x.tag ≡ shown_tag (step_at w.section.now w.at))
  pub bytes : IfSome shown (λ x. x.bytes.now ≡ shown_bytes w.section.now (step_at w.section.now w.at))
  pub itself : IfSome shown (λ x. (x.bytes.ref_ptr.0 ≡ w.section.ref_ptr.0)
      × (x.bytes.ref_ptr.1 ≡ shown_start (step_at w.section.now w.at) + w.section.ref_ptr.1))
  pub section : after.section ≡ w.section
  pub place : after.at ≡ place_after w.at (step_at w.section.now w.at)

-- a walk of an opened record, from its start, shows every field of Section 1 in their order, none left out; one that is refused is at its
-- end, and shows nothing
pub record WalkShows : Type 0 where
  pub all : (n : ℕ) (r : List ℕ) → opens r ≡ true → length (section_of r 1) ≤ n
      → shown_by n (part_bytes r (walk_place r)) data_at ≡ map (shown_field (section_of r 1)) (fields_from (section_of r 1) data_at)
  pub refused : (r : List ℕ) → opens r ≡ false → step_at (part_bytes r (walk_place r)) data_at ≡ None
