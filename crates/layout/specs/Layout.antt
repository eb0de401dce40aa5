-- The bytes of a record as the writer writes it (01, The record; 01, Leads and samples; 01, Refusal numbers, the paragraphs under the
-- table): Section 0 with twelve pointers, then Sections 1, 2 if it is given, 3 and 6, each behind the one before it; the version byte
-- is in both places of every header, and a byte that is reserved or spare is 0, but for Section 0's letters.
use Rattle.std.specs.Prelude.{ℕ, ◌+◌, ◌-◌, ◌%◌, cond, List, [], ◌∷◌, ◌++◌, eqb, length, replicate}
use Rattle.wire.specs.Numbers.{bytes_of}
use Rattle.wire.specs.Check.{crc_of}

-- ---- a section

-- data with one spare byte where their number is odd, since a section's length is even
unfoldable pub evened : List ℕ → List ℕ
evened contents = contents ++ replicate (length contents % 2) 0

-- the length of a section with `count` bytes of data: the header's 16, the data, and the spare byte where there is one
abbrev pub section_length : ℕ → ℕ
section_length count = 16 + count + count % 2

-- the check over the bytes that follow it, and these
unfoldable pub checked : List ℕ → List ℕ
checked body = bytes_of 2 (crc_of body) ++ body

-- a section: its check, its ID in two bytes, its length in four, the version byte twice, six reserved bytes, then the data made even
unfoldable pub section_bytes : ℕ → ℕ → List ℕ → List ℕ → List ℕ
section_bytes id version reserved contents =
    checked (bytes_of 2 id ++ (bytes_of 4 (section_length (length contents)) ++ (version ∷ (version ∷ (reserved ++ evened contents)))))

-- the six reserved bytes of a header: 0, but in Section 0 the letters SCPECG
abbrev pub zero_reserved : List ℕ
zero_reserved = 0 ∷ (0 ∷ (0 ∷ (0 ∷ (0 ∷ (0 ∷ [])))))

abbrev pub letters : List ℕ
letters = 83 ∷ (67 ∷ (80 ∷ (69 ∷ (67 ∷ (71 ∷ [])))))

-- ---- the data of Sections 3 and 6

-- nine bytes for each lead: the number of its first sample (4), that of its last (4), and its ID (1)
unfoldable pub entries_of : List ℕ → List ℕ → List ℕ → List ℕ
entries_of [] counts ids = []
entries_of (first ∷ firsts) [] ids = []
entries_of (first ∷ firsts) (count ∷ counts) [] = []
entries_of (first ∷ firsts) (count ∷ counts) (id ∷ ids) =
    bytes_of 4 first ++ (bytes_of 4 (first + count - 1) ++ (id ∷ entries_of firsts counts ids))

-- Section 3's data: the number of leads, the flags with bit 0 cleared, and the leads' entries
unfoldable pub leads_data : ℕ → List ℕ → List ℕ → List ℕ → List ℕ
leads_data flags firsts counts ids = length counts ∷ ((flags - flags % 2) ∷ entries_of firsts counts ids)

-- how many bytes each lead's stream has, in two bytes; and the streams one after another
unfoldable pub byte_counts_of : List (List ℕ) → List ℕ
byte_counts_of [] = []
byte_counts_of (stream ∷ streams) = bytes_of 2 (length stream) ++ byte_counts_of streams

unfoldable pub joined : List (List ℕ) → List ℕ
joined [] = []
joined (stream ∷ streams) = stream ++ joined streams

-- Section 6's data: step (2), interval (2), difference order (1), bimodal, which is 0 (1), byte counts, streams
unfoldable pub streams_data : ℕ → ℕ → ℕ → List (List ℕ) → List ℕ
streams_data step interval order streams =
    bytes_of 2 step ++ (bytes_of 2 interval ++ (order ∷ (0 ∷ (byte_counts_of streams ++ joined streams))))

-- ---- the record

-- a pointer in ten bytes: the ID in two, the length in four, the index in four
unfoldable pub pointer_bytes : ℕ → ℕ → ℕ → List ℕ
pointer_bytes id size index = bytes_of 2 id ++ (bytes_of 4 size ++ bytes_of 4 index)

-- an absent section's pointer has length 0 and index 0
abbrev pub absent : ℕ → List ℕ
absent id = pointer_bytes id 0 0

-- the twelve pointers, by the lengths of Sections 1, 2 (0 where it is absent), 3 and 6: Section 0 has 136 bytes and index 7, and each
-- present section follows the one before
unfoldable pub pointers_data : ℕ → ℕ → ℕ → ℕ → List ℕ
pointers_data size1 size2 size3 size6 =
    pointer_bytes 0 136 7
    ++ (pointer_bytes 1 size1 143
    ++ (cond (eqb size2 0) (absent 2) (pointer_bytes 2 size2 (143 + size1))
    ++ (pointer_bytes 3 size3 (143 + size1 + size2)
    ++ (absent 4
    ++ (absent 5
    ++ (pointer_bytes 6 size6 (143 + size1 + size2 + size3)
    ++ (absent 7 ++ (absent 8 ++ (absent 9 ++ (absent 10 ++ absent 11))))))))))

-- the length and the bytes of Section 2: none where no data are given
abbrev pub section2_size : ℕ → ℕ
section2_size count = cond (eqb count 0) 0 (section_length count)

unfoldable pub section2_bytes : ℕ → List ℕ → List ℕ
section2_bytes version contents = cond (eqb (length contents) 0) [] (section_bytes 2 version zero_reserved contents)

-- the record's length, by those of its data
abbrev pub record_size : ℕ → ℕ → ℕ → ℕ → ℕ
record_size count1 count2 count3 count6 = 142 + section_length count1 + section2_size count2 + section_length count3 + section_length count6

-- the record's check, its size in four bytes, then Section 0 and the sections that are there
unfoldable pub record_bytes : ℕ → List ℕ → List ℕ → List ℕ → List ℕ → List ℕ
record_bytes version data1 data2 data3 data6 =
    checked
    (bytes_of 4 (record_size (length data1) (length data2) (length data3) (length data6))
    ++ (section_bytes 0 version letters
    (pointers_data (section_length (length data1)) (section2_size (length data2)) (section_length (length data3))
    (section_length (length data6)))
    ++ (section_bytes 1 version zero_reserved data1
    ++ (section2_bytes version data2
    ++ (section_bytes 3 version zero_reserved data3 ++ section_bytes 6 version zero_reserved data6)))))
