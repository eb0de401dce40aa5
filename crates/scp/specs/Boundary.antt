-- The C boundary answers in numbers where the library's call answers by cases (01, The forms we expect, on answers that are enums).
use Rattle.std.specs.Prelude.{ℕ, Bool, true, false, Option, Some, None, Result, Ok, Err}
use Rattle.header.specs.declared.Field.{Field}
use Rattle.header.specs.Fields.{size_of}
use Rattle.fields.specs.declared.Part.{Part}
use Rattle.scp.specs.declared.ScpPart.{ScpPart}
use Rattle.scp.specs.declared.ScpStep.{ScpStep}

-- a part of what was lent, or the refusal and zeros
abbrev pub part_at : Result Part ℕ → ScpPart
part_at (Ok part) = record { refusal = 0; start = part.start; length = part.size }
part_at (Err number) = record { refusal = number; start = 0; length = 0 }

-- the field that a step of the walk from a place shows; at the end zeros, and the same place
abbrev pub shown : ℕ → Option Field → ScpStep
shown at (Some f) = record { more = 1; tag = f.tag; start = f.start; length = size_of f; next = f.end }
shown at None = record { more = 0; tag = 0; start = 0; length = 0; next = at }

-- 1 for yes, 0 for no
abbrev pub one_if : Bool → ℕ
one_if true = 1
one_if false = 0
