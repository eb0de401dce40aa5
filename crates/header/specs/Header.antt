-- Refusal 6: the rule that Section 1's data keep (01, Header fields and the patient identifier; 01, Refusal numbers).
use Rattle.std.specs.Prelude.{ℕ, ◌+◌, ◌-◌, Bool, true, false, not, ◌&&◌, List, [], ◌∷◌, leb, eqb, Option, Some, None}
use Rattle.wire.specs.Numbers.{byte_at, number_at}
use Rattle.wire.specs.RuleWords.{all_in, ends_by}
use Rattle.header.specs.declared.Field.{Field}
use Rattle.header.specs.Fields.{fields_from, fields_end, with_tag, size_of}

-- the end mark FF 00 00 is at a place, with at most `spare` bytes after it
unfoldable pub ends_at : ℕ → List ℕ → ℕ → Bool
ends_at spare s at =
    eqb (byte_at s at) 255
    && (eqb (number_at 2 s (at + 1)) 0 && ends_by spare s (at + 3))

-- the one field of a list that has exactly one
unfoldable pub sole : List Field → Option Field
sole [] = None
sole (f ∷ []) = Some f
sole (f ∷ (g ∷ fs)) = None

-- there is such a field, and it keeps a rule of its own
abbrev pub found_keeps : (Field → Bool) → Option Field → Bool
found_keeps rule (Some f) = rule f
found_keeps rule None = false

-- the patient identifier: 2 to 64 bytes, of which the last is NUL and no other
unfoldable pub is_identifier : List ℕ → Field → Bool
is_identifier s f =
    leb 2 (size_of f)
    && (leb (size_of f) 64
    && (eqb (byte_at s (f.end - 1)) 0
    && all_in f.start (f.end - 1) (λ i. not (eqb (byte_at s i) 0))))

-- a field of n bytes
unfoldable pub has_size : ℕ → Field → Bool
has_size n f = eqb (size_of f) n

-- a field of any size
abbrev pub any_field : Field → Bool
any_field f = true

-- four tags are required, each in one field only: 2, the identifier; 14, of any size; 25, of four bytes; 26, of three
unfoldable pub tags_right : List ℕ → List Field → Bool
tags_right s fs =
    found_keeps (is_identifier s) (sole (with_tag 2 fs))
    && (found_keeps any_field (sole (with_tag 14 fs))
    && (found_keeps (has_size 4) (sole (with_tag 25 fs)) && found_keeps (has_size 3) (sole (with_tag 26 fs))))

-- 6: the fields run up to the end mark, with at most `spare` bytes behind it (1 in a record, 0 for the writer), and the required tags
-- keep their rules
unfoldable pub section1_right : ℕ → List ℕ → ℕ → Bool
section1_right spare s at = ends_at spare s (fields_end at (fields_from s at)) && tags_right s (fields_from s at)
