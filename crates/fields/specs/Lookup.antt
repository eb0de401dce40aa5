-- Showing a field of a record, and starting a walk over its fields (01, Header fields and the patient identifier; 01, Refusal numbers).
use Rattle.std.specs.Prelude.{ℕ, ◌+◌, cond, List, Option, Some, None, Result, Ok, Err}
use Rattle.wire.specs.Numbers.{part}
use Rattle.header.specs.declared.Field.{Field}
use Rattle.header.specs.Fields.{fields_from, with_tag, occurring, size_of}
use Rattle.pointers.specs.Pointers.{data_at, start_of, length_of, section_of}
use Rattle.record.specs.Opening.{open_refusal, opens}
use Rattle.fields.specs.declared.Part.{Part}

-- where a field found in Section 1 lies in the record: the section's start is added to the field's own; 10 where there is no such field
abbrev pub place_found : ℕ → Option Field → Result Part ℕ
place_found start (Some f) = Ok (record { start = start + f.start; size = size_of f })
place_found start None = Err 10

-- where an occurrence of a tag, counted from 1, is in the record; a record that does not open is refused as opening is, and else 10
-- says that there is no such field
unfoldable pub field_place : List ℕ → ℕ → ℕ → Result Part ℕ
field_place r tag occurrence =
    cond (opens r)
    (place_found (start_of r 1) (occurring occurrence (with_tag tag (fields_from (section_of r 1) data_at))))
    (Err (open_refusal r))

-- a walk is over Section 1 whole, its header with it, so that it starts at `data_at`; it is refused as opening is
unfoldable pub walk_place : List ℕ → Result Part ℕ
walk_place r = cond (opens r) (Ok (record { start = start_of r 1; size = length_of r 1 })) (Err (open_refusal r))

-- what a place says: its refusal (0 for a part), where the part starts, how many bytes it has, and these bytes; a refusal has none
abbrev pub refusal_of : Result Part ℕ → ℕ
refusal_of (Ok p) = 0
refusal_of (Err number) = number

abbrev pub part_start : Result Part ℕ → ℕ
part_start (Ok p) = p.start
part_start (Err number) = 0

abbrev pub part_size : Result Part ℕ → ℕ
part_size (Ok p) = p.size
part_size (Err number) = 0

abbrev pub part_bytes : List ℕ → Result Part ℕ → List ℕ
part_bytes r p = part r (part_start p) (part_start p + part_size p)
