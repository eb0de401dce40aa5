-- Section 0's pointers (01, The record; 01, Numbers that bound the work). r is the list of a record's bytes; places count from 0, so
-- that what 01 calls byte 7 is at place 6; an index is a number as stored, and counts from 1.
use Rattle.std.specs.Prelude.{ℕ, zero, suc, ◌+◌, ◌*◌, ◌-◌, ◌/◌, min, Bool, not, List, [], ◌∷◌, eqb}
use Rattle.wire.specs.Bounds.{most_pointers}
use Rattle.wire.specs.Numbers.{number_at, part}

-- Section 0 is at byte 7, and its length is in its header
abbrev pub section0_length : List ℕ → ℕ
section0_length r = number_at 4 r 10

-- a section's data start behind its header of 16 bytes
abbrev pub data_at : ℕ
data_at = 16

-- how many pointers of 10 bytes that length holds behind the header. Never over the most that there may be: a longer Section 0 is then
-- not 16 + 10 times this, and breaks rule 3, which also asks for the fewest
unfoldable pub count_of : List ℕ → ℕ
count_of r = min most_pointers ((section0_length r - 16) / 10)

-- pointer k, counted from 0, in its ten bytes: the ID in two, the length in four, the index of the section's first byte in four
abbrev pub id_of : List ℕ → ℕ → ℕ
id_of r k = number_at 2 r (22 + 10 * k)

abbrev pub length_of : List ℕ → ℕ → ℕ
length_of r k = number_at 4 r (24 + 10 * k)

abbrev pub index_of : List ℕ → ℕ → ℕ
index_of r k = number_at 4 r (28 + 10 * k)

-- a pointer of length 0 says that its section is not there, and its index then says nothing
abbrev pub present : List ℕ → ℕ → Bool
present r k = not (eqb (length_of r k) 0)

-- the place of a section's first byte (index 0 breaks rule 4), and the place after its last
abbrev pub start_of : List ℕ → ℕ → ℕ
start_of r k = index_of r k - 1

abbrev pub end_of : List ℕ → ℕ → ℕ
end_of r k = start_of r k + length_of r k

-- a section's bytes, its header with them
unfoldable pub section_of : List ℕ → ℕ → List ℕ
section_of r k = part r (start_of r k) (end_of r k)

-- n pointers from the k-th on, each as stored: ID, length, index
unfoldable pub pointers_from : List ℕ → ℕ → ℕ → List ℕ
pointers_from r k zero = []
pointers_from r k (suc n) = id_of r k ∷ (length_of r k ∷ (index_of r k ∷ pointers_from r (k + 1) n))
