-- The fields of Section 1 (01, Header fields and the patient identifier), as parts of a list of bytes s that is walked from a place
-- on: the section with its header from place 16, or its data alone from place 0.
use Rattle.std.specs.Prelude.{ℕ, zero, suc, ◌+◌, ◌-◌, Bool, not, ◌&&◌, cond, List, [], ◌∷◌, leb, eqb, length, Option, Some, None}
use Rattle.wire.specs.Numbers.{byte_at, number_at, part}
use Rattle.header.specs.declared.Field.{Field}

-- there is a whole field at a place: a tag other than 255, a length, and that many bytes
unfoldable pub is_field : List ℕ → ℕ → Bool
is_field s at =
    leb (at + 3) (length s)
    && (not (eqb (byte_at s at) 255)
    && leb (at + 3 + number_at 2 s (at + 1)) (length s))

-- the field there: its tag (1), its length (2), then its bytes, from start up to end
unfoldable pub field_at : List ℕ → ℕ → Field
field_at s at = record { tag = byte_at s at; start = at + 3; end = at + 3 + number_at 2 s (at + 1) }

-- a step of the walk shows the field, or the end where there is no whole field; the end mark is no field, nor is any other 255
unfoldable pub step_at : List ℕ → ℕ → Option Field
step_at s at = cond (is_field s at) (Some (field_at s at)) None

-- the fields that a walk meets: the one that the step shows, then those from its end on
abbrev pub onward : (ℕ → List Field) → Option Field → List Field
onward more (Some f) = f ∷ more f.end
onward more None = []

-- those of at most this many steps
unfoldable pub walk : ℕ → List ℕ → ℕ → List Field
walk zero s at = []
walk (suc steps) s at = onward (walk steps s) (step_at s at)

-- a field takes three bytes or more, so there are no more fields than bytes, and the steps never run out
unfoldable pub fields_from : List ℕ → ℕ → List Field
fields_from s at = walk (length s) s at

-- the place after the last of the fields from a place on
unfoldable pub fields_end : ℕ → List Field → ℕ
fields_end at [] = at
fields_end at (f ∷ fs) = fields_end f.end fs

-- the fields with a tag, in their order
unfoldable pub with_tag : ℕ → List Field → List Field
with_tag tag [] = []
with_tag tag (f ∷ fs) = cond (eqb f.tag tag) (f ∷ with_tag tag fs) (with_tag tag fs)

-- the occurrence that is asked for, counted from 1, or the end where there is none
unfoldable pub occurring : ℕ → List Field → Option Field
occurring zero fs = None
occurring (suc n) [] = None
occurring (suc zero) (f ∷ fs) = Some f
occurring (suc (suc n)) (f ∷ fs) = occurring (suc n) fs

-- a field's bytes, and those that a step shows: none at the end
abbrev pub field_bytes : List ℕ → Field → List ℕ
field_bytes s f = part s f.start f.end

abbrev pub shown_bytes : List ℕ → Option Field → List ℕ
shown_bytes s (Some f) = field_bytes s f
shown_bytes s None = []

-- how many bytes a field has
abbrev pub size_of : Field → ℕ
size_of f = f.end - f.start
