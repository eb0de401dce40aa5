-- What a record says of the patient and of the day, as field lookup shows it (01, Header fields and the patient identifier; the bytes of
-- tag 25: 000, 5.4.5; 02, Q-13). r is the bytes of a record that opens.
use Rattle.std.specs.Prelude.{ℕ, ◌-◌, List, length, take}
use Rattle.wire.specs.Numbers.{byte_at, number_at}
use Rattle.fields.specs.Lookup.{field_place, part_bytes}

-- the bytes of the first field with a tag
unfoldable pub field_of : List ℕ → ℕ → List ℕ
field_of r tag = part_bytes r (field_place r tag 1)

-- the patient identifier is tag 2's bytes, here without the NUL that ends them
unfoldable pub identifier_of : List ℕ → List ℕ
identifier_of r = take (length (field_of r 2) - 1) (field_of r 2)

-- the date of the recording is tag 25's four bytes: the year in two, the month in one, the day in one
abbrev pub year_of : List ℕ → ℕ
year_of r = number_at 2 (field_of r 25) 0

abbrev pub month_of : List ℕ → ℕ
month_of r = byte_at (field_of r 25) 2

abbrev pub day_of : List ℕ → ℕ
day_of r = byte_at (field_of r 25) 3
