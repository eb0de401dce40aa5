-- Refusals 1 to 6, a rule each, over the bytes r of a record (01, The record; 01, Numbers that bound the work; 01, Refusal numbers).
-- Each means its row for bytes that keep the rules before it; of other bytes it only has some answer.
use Rattle.std.specs.Prelude.{ℕ, ◌+◌, ◌*◌, ◌-◌, ◌%◌, Bool, not, ◌&&◌, ◌||◌, cond, List, leb, ltb, eqb, length}
use Rattle.wire.specs.Bounds.{fewest_bytes, most_bytes, fewest_pointers}
use Rattle.wire.specs.Numbers.{byte_at, number_at, part}
use Rattle.wire.specs.Check.{crc_of}
use Rattle.wire.specs.RuleWords.{all_in}
use Rattle.header.specs.Header.{section1_right}
use Rattle.pointers.specs.Pointers.{section0_length, data_at, count_of, id_of, length_of, index_of, present, start_of, end_of, section_of}

-- 1: there are 142 to 1,048,576 bytes, as many as the size field says
unfoldable pub length_right : List ℕ → Bool
length_right r = leb fewest_bytes (length r) && (leb (length r) most_bytes && eqb (number_at 4 r 2) (length r))

-- the first two bytes of a part hold the check of the rest of it
unfoldable pub holds_check : List ℕ → ℕ → ℕ → Bool
holds_check r start end = eqb (number_at 2 r start) (crc_of (part r (start + 2) end))

-- 2: the record's check
unfoldable pub record_check_right : List ℕ → Bool
record_check_right r = holds_check r 0 (length r)

-- the reserved bytes of Section 0's header are the letters SCPECG
unfoldable pub letters_right : List ℕ → Bool
letters_right r =
    eqb (byte_at r 16) 83
    && (eqb (byte_at r 17) 67
    && (eqb (byte_at r 18) 80 && (eqb (byte_at r 19) 69 && (eqb (byte_at r 20) 67 && eqb (byte_at r 21) 71))))

-- each of the first twelve pointers has its own number, from 0, as its ID; each one more has an ID above the one before it (so
-- at least 12, since the twelfth has 11)
unfoldable pub id_right : List ℕ → ℕ → Bool
id_right r k = cond (ltb k 12) (eqb (id_of r k) k) (ltb (id_of r (k - 1)) (id_of r k))

-- the pointer of Section 0 gives the length that Section 0's header gives, and 7 as its index
unfoldable pub own_pointer_right : List ℕ → Bool
own_pointer_right r = eqb (length_of r 0) (section0_length r) && eqb (index_of r 0) 7

-- 3: Section 0 has ID 0, the letters, and 12 to 64 whole pointers (`count_of` never says more) with nothing behind them; it lies in the
-- record, its own pointer is right, and the pointers' IDs are in order
unfoldable pub section0_right : List ℕ → Bool
section0_right r =
    eqb (number_at 2 r 8) 0
    && (letters_right r
    && (leb fewest_pointers (count_of r)
    && (eqb (section0_length r) (16 + 10 * count_of r)
    && (leb (6 + section0_length r) (length r)
    && (own_pointer_right r && all_in 0 (count_of r) (id_right r))))))

-- a section's length is even and at least 16; it starts after Section 0, and lies inside the record
unfoldable pub place_right : List ℕ → ℕ → Bool
place_right r k =
    eqb (length_of r k % 2) 0
    && (leb 16 (length_of r k)
    && (ltb (6 + section0_length r) (index_of r k) && leb (end_of r k) (length r)))

-- its header repeats its pointer's ID and length
unfoldable pub header_repeats : List ℕ → ℕ → Bool
header_repeats r k = eqb (number_at 2 r (start_of r k + 2)) (id_of r k) && eqb (number_at 4 r (start_of r k + 4)) (length_of r k)

-- section j is absent, or one of j and k, k being present, ends before the other begins
unfoldable pub sections_apart : List ℕ → ℕ → ℕ → Bool
sections_apart r k j = not (present r j) || (leb (end_of r j) (start_of r k) || leb (end_of r k) (start_of r j))

-- a section is absent; or it is placed by the rules, its header repeats its pointer, and it overlaps none whose pointer comes before
-- its own, so that no two overlap
unfoldable pub placed_right : List ℕ → ℕ → Bool
placed_right r k = not (present r k) || (place_right r k && (header_repeats r k && all_in 1 k (sections_apart r k)))

-- 4: Section 1 is present, and every section behind Section 0 has its place, length and header by the rules
unfoldable pub all_placed_right : List ℕ → Bool
all_placed_right r = present r 1 && all_in 1 (count_of r) (placed_right r)

-- a section is absent, or its check is right
unfoldable pub section_check_right : List ℕ → ℕ → Bool
section_check_right r k = not (present r k) || holds_check r (start_of r k) (end_of r k)

-- 5: the check of Section 0, which is at byte 7, and that of every section behind it
unfoldable pub checks_right : List ℕ → Bool
checks_right r = holds_check r 6 (6 + section0_length r) && all_in 1 (count_of r) (section_check_right r)

-- 6: Section 1's data, behind its header, keep their rule; one byte may follow the end mark
unfoldable pub fields_right : List ℕ → Bool
fields_right r = section1_right 1 (section_of r 1) data_at
