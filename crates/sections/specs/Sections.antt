-- A record as a list of sections (01, The record; 01, Refusal numbers, the paragraphs under the table): Section 0 with a pointer for each,
-- then those that are present, in rising ID and without gaps. A section is given whole, header and check with it, so that one that is
-- carried over stays as it was. Places count from 0, indexes from 1.
use Rattle.std.specs.Prelude.{ℕ, zero, suc, ◌+◌, ◌-◌, ◌*◌, ◌%◌, ◌≤◌, ◌<◌, ◌≡◌, Bool, true, ◌&&◌, ◌||◌, cond, List, [], ◌∷◌, ◌++◌, leb, ltb, eqb, length, get_or}
use Rattle.wire.specs.Numbers.{number_at, bytes_of}
use Rattle.wire.specs.RuleWords.{every}
use Rattle.wire.specs.Bounds.{fewest_pointers, most_pointers, most_bytes}
use Rattle.pointers.specs.Pointers.{count_of, id_of, section_of}
use Rattle.record.specs.RecordRules.{holds_check}
use Rattle.layout.specs.Layout.{evened, section_length, checked, section_bytes, letters, zero_reserved, pointer_bytes, section2_bytes}

-- ---- a section

-- its ID and its bytes; an absent one has none
pub record Section : Type 0 where
  pub id : ℕ
  pub bytes : List ℕ

abbrev pub absent_section : ℕ → Section
absent_section id = record { id = id; bytes = [] }

-- the j-th of a list, from 0
abbrev pub nth : List Section → ℕ → Section
nth ss j = get_or ss j (absent_section 0)

-- bytes are a sound section with an ID: their number is even and at least 16, the header repeats the ID and that number, and the check
-- is right
unfoldable pub sound : ℕ → List ℕ → Bool
sound id s =
    eqb (length s % 2) 0
    && (leb 16 (length s)
    && (eqb (number_at 2 s 2) id && (eqb (number_at 4 s 4) (length s) && holds_check s 0 (length s))))

-- a section is absent, or it is sound
unfoldable pub usable : Section → Bool
usable s = eqb (length s.bytes) 0 || sound s.id s.bytes

-- a section made new: its check, its ID in two bytes, its length in four, the eight bytes of its header that are not judged (section
-- version, protocol version, six reserved), then the data made even
unfoldable pub section_with : ℕ → List ℕ → List ℕ → List ℕ
section_with id unjudged contents =
    checked (bytes_of 2 id ++ (bytes_of 4 (section_length (length contents)) ++ (unjudged ++ evened contents)))

-- ---- the record

-- the sections one behind another, and how many bytes they have together
unfoldable pub bodies : List Section → List ℕ
bodies [] = []
bodies (s ∷ ss) = s.bytes ++ bodies ss

unfoldable pub total_length : List Section → ℕ
total_length [] = 0
total_length (s ∷ ss) = length s.bytes + total_length ss

-- the index of a section that starts at a place; an absent one's is 0
unfoldable pub index_for : List ℕ → ℕ → ℕ
index_for [] place = 0
index_for (b ∷ bs) place = 1 + place

-- the pointers of sections, the first of which is at a place, and each other one behind the one before it
unfoldable pub pointers_for : ℕ → List Section → List ℕ
pointers_for place [] = []
pointers_for place (s ∷ ss) =
    pointer_bytes s.id (length s.bytes) (index_for s.bytes place) ++ pointers_for (place + length s.bytes) ss

-- Section 0 has its own pointer and one for each section of the list
abbrev pub pointer_count : List Section → ℕ
pointer_count ss = 1 + length ss

-- its length: the header's 16 bytes, and ten for each pointer
abbrev pub section0_size : List Section → ℕ
section0_size ss = 16 + 10 * pointer_count ss

-- its data: its own pointer, with index 7, then those of the sections, which begin behind it
unfoldable pub section0_data : List Section → List ℕ
section0_data ss = pointer_bytes 0 (section0_size ss) 7 ++ pointers_for (6 + section0_size ss) ss

-- Section 0, with its section version and its protocol version; its reserved bytes are the letters
unfoldable pub section0_bytes : ℕ → ℕ → List Section → List ℕ
section0_bytes version protocol ss = section_with 0 (version ∷ (protocol ∷ letters)) (section0_data ss)

-- the record's length: 6 bytes for its check and its size, Section 0, and the sections
unfoldable pub size_for : List Section → ℕ
size_for ss = 6 + section0_size ss + total_length ss

-- the record
unfoldable pub record_from : ℕ → ℕ → List Section → List ℕ
record_from version protocol ss = checked (bytes_of 4 (size_for ss) ++ (section0_bytes version protocol ss ++ bodies ss))

-- ---- which lists make a record

-- the IDs of pointers from the k-th on, by the ID before them: each of the first twelve, Section 0's being number 0, has its own number;
-- each one more has an ID above the one before it. An ID has room in two bytes
unfoldable pub rising : ℕ → ℕ → List Section → Bool
rising k before [] = true
rising k before (s ∷ ss) =
    cond (ltb k 12) (eqb s.id k) (ltb before s.id) && (ltb s.id 65536 && rising (k + 1) s.id ss)

-- there are 12 to 64 pointers, with IDs in order; every section is absent or sound, and Section 1 is present; the record is not over its
-- bound. Twelve pointers already make the 142 bytes that a record has at least
pub record Fit (ss : List Section) : Type 0 where
  pub least : fewest_pointers ≤ pointer_count ss
  pub most : pointer_count ss ≤ most_pointers
  pub order : rising 1 0 ss ≡ true
  pub each : every usable ss ≡ true
  pub first : 0 < length (nth ss 0).bytes
  pub small : size_for ss ≤ most_bytes

-- ---- the sections of a record

-- that of pointer k, and those of n pointers from the k-th on
abbrev pub section_at : List ℕ → ℕ → Section
section_at r k = record { id = id_of r k; bytes = section_of r k }

unfoldable pub sections_from : List ℕ → ℕ → ℕ → List Section
sections_from r k zero = []
sections_from r k (suc n) = section_at r k ∷ sections_from r (k + 1) n

-- all but Section 0
unfoldable pub sections_in : List ℕ → List Section
sections_in r = sections_from r 1 (count_of r - 1)

-- ---- the sections that the writer writes

-- a section by its data, with the version byte in both places and reserved bytes that are 0
abbrev pub plain_section : ℕ → ℕ → List ℕ → Section
plain_section id version contents = record { id = id; bytes = section_bytes id version zero_reserved contents }

-- Sections 1, 2 if it is given, 3 and 6
abbrev pub four : ℕ → List ℕ → List ℕ → List ℕ → List ℕ → List Section
four version data1 data2 data3 data6 =
    plain_section 1 version data1
    ∷ (record { id = 2; bytes = section2_bytes version data2 }
    ∷ (plain_section 3 version data3
    ∷ (absent_section 4
    ∷ (absent_section 5
    ∷ (plain_section 6 version data6
    ∷ (absent_section 7 ∷ (absent_section 8 ∷ (absent_section 9 ∷ (absent_section 10 ∷ (absent_section 11 ∷ []))))))))))
