-- The examples of 01 (Examples to hold against), as one table, P1 to P10. A whole number is `pos n`, which is n, or `negsuc n`, which is
-- -(n + 1): `negsuc 3` is -4.
use Rattle.std.specs.Prelude.{ℕ, ◌*◌, ◌≤◌, ◌≡◌, true, false, List, [], ◌∷◌, Some, ℤ, pos, negsuc, length, take, drop}
use Rattle.wire.specs.Numbers.{part}
use Rattle.header.specs.Fields.{step_at}
use Rattle.bits.specs.Bits.{low_first, bits_in}
use Rattle.tables.specs.Section2.{tables_in, section2_right}
use Rattle.reading.specs.Reading.{gave, read_next}
use Rattle.shortest.specs.Shortest.{Stream, Shortest}
use Rattle.encode.specs.declared.Coded.{Coded}
use Rattle.encode.specs.Encoding.{tables_given, tables_given_right, LeadEncoding}
use Rattle.samples.specs.Differences.{differences}
use Rattle.entries.specs.Section4.{samples_in_beat}
use Rattle.fields.specs.Identifier.{same}

-- Section 2's data of the two tables of 000, C.2.7.3, a structure to a line: prefix bits, whole-code bits, mode, base value, base code.
-- The prefix is the base code from its lowest bit on, so 11 with 4 bits is `1101`
unfoldable pub two_tables : List ℕ
two_tables =
    2 ∷ 0 ∷  -- two tables
    7 ∷ 0 ∷  -- table 1 has 7 structures
    1 ∷ 1 ∷ 1 ∷ 0 ∷ 0 ∷ 0 ∷ 0 ∷ 0 ∷ 0 ∷  -- `0` is 0
    3 ∷ 3 ∷ 1 ∷ 1 ∷ 0 ∷ 1 ∷ 0 ∷ 0 ∷ 0 ∷  -- `100` is 1
    3 ∷ 3 ∷ 1 ∷ 255 ∷ 255 ∷ 5 ∷ 0 ∷ 0 ∷ 0 ∷  -- `101` is -1
    4 ∷ 4 ∷ 1 ∷ 2 ∷ 0 ∷ 3 ∷ 0 ∷ 0 ∷ 0 ∷  -- `1100` is 2
    4 ∷ 4 ∷ 1 ∷ 254 ∷ 255 ∷ 11 ∷ 0 ∷ 0 ∷ 0 ∷  -- `1101` is -2
    4 ∷ 4 ∷ 0 ∷ 2 ∷ 0 ∷ 7 ∷ 0 ∷ 0 ∷ 0 ∷  -- `1110` switches to table 2
    4 ∷ 12 ∷ 1 ∷ 0 ∷ 0 ∷ 15 ∷ 0 ∷ 0 ∷ 0 ∷  -- `1111`, and the value in 8 bits
    5 ∷ 0 ∷  -- table 2 has 5 structures
    1 ∷ 9 ∷ 1 ∷ 0 ∷ 0 ∷ 0 ∷ 0 ∷ 0 ∷ 0 ∷  -- `0`, and the value in 8 bits
    3 ∷ 3 ∷ 1 ∷ 0 ∷ 0 ∷ 1 ∷ 0 ∷ 0 ∷ 0 ∷  -- `100` is 0
    3 ∷ 3 ∷ 1 ∷ 1 ∷ 0 ∷ 5 ∷ 0 ∷ 0 ∷ 0 ∷  -- `101` is 1
    3 ∷ 3 ∷ 1 ∷ 255 ∷ 255 ∷ 3 ∷ 0 ∷ 0 ∷ 0 ∷  -- `110` is -1
    3 ∷ 3 ∷ 0 ∷ 1 ∷ 0 ∷ 7 ∷ 0 ∷ 0 ∷ 0 ∷  -- `111` switches to table 1
    []

-- Section 2's data that name the default table: 19,999
unfoldable pub named_default : List ℕ
named_default = 31 ∷ 78 ∷ []

-- the values of P3: 14 18 0 -4 -9 -1 5
unfoldable pub values_p3 : List ℤ
values_p3 = pos 14 ∷ pos 18 ∷ pos 0 ∷ negsuc 3 ∷ negsuc 8 ∷ negsuc 0 ∷ pos 5 ∷ []

-- the values of P5 and P6: 1 2 -1 0 3 0 4 1 0 -2, and 0 15 -1 0 13 0 1 -2 -1 1
unfoldable pub values_p5 : List ℤ
values_p5 =
    pos 1 ∷ pos 2 ∷ negsuc 0 ∷ pos 0 ∷ pos 3 ∷ pos 0 ∷ pos 4 ∷ pos 1 ∷ pos 0 ∷ negsuc 1 ∷
    pos 0 ∷ pos 15 ∷ negsuc 0 ∷ pos 0 ∷ pos 13 ∷ pos 0 ∷ pos 1 ∷ negsuc 1 ∷ negsuc 0 ∷ pos 1 ∷ []

-- the bytes of P3's stream: FF 83 BF E1 27 BF F7 BD F8
unfoldable pub bytes_p3 : List ℕ
bytes_p3 = 255 ∷ 131 ∷ 191 ∷ 225 ∷ 39 ∷ 191 ∷ 247 ∷ 189 ∷ 248 ∷ []

-- the bytes of P5's: 99 5E 06 F0 48 DE 80 FD 01 BD 36 C0; the stream is all but the last 4 of their bits
unfoldable pub bytes_p5 : List ℕ
bytes_p5 = 153 ∷ 94 ∷ 6 ∷ 240 ∷ 72 ∷ 222 ∷ 128 ∷ 253 ∷ 1 ∷ 189 ∷ 54 ∷ 192 ∷ []

unfoldable pub bits_p5 : List ℕ
bits_p5 = take 92 (bits_in bytes_p5)

-- the stream of P7 for 15 15: all but the last 2 bits of E0 78 3C
unfoldable pub bits_p7 : List ℕ
bits_p7 = take 22 (bits_in (224 ∷ 120 ∷ 60 ∷ []))

-- the samples of P9: -32,768, 32,767, -32,768
unfoldable pub samples_p9 : List ℤ
samples_p9 = negsuc 32767 ∷ pos 32767 ∷ negsuc 32767 ∷ []

-- the samples of P1 and P2
unfoldable pub samples_p1 : List ℤ
samples_p1 = pos 10 ∷ pos 12 ∷ pos 13 ∷ pos 15 ∷ pos 18 ∷ pos 22 ∷ pos 20 ∷ pos 15 ∷ []

-- the fields of P10, and the identifiers in them: 007 and 7, each with its NUL
unfoldable pub field007 : List ℕ
field007 = 2 ∷ 4 ∷ 0 ∷ 48 ∷ 48 ∷ 55 ∷ 0 ∷ []

unfoldable pub field7 : List ℕ
field7 = 2 ∷ 2 ∷ 0 ∷ 55 ∷ 0 ∷ []

unfoldable pub id007 : List ℕ
id007 = 48 ∷ 48 ∷ 55 ∷ 0 ∷ []

unfoldable pub id7 : List ℕ
id7 = 55 ∷ 0 ∷ []

pub record Examples : Type 0 where
  -- P1, P2: what the two orders store
  pub p1 : differences 1 samples_p1 ≡ pos 10 ∷ pos 2 ∷ pos 1 ∷ pos 2 ∷ pos 3 ∷ pos 4 ∷ negsuc 1 ∷ negsuc 4 ∷ []
  pub p2 : differences 2 samples_p1 ≡ pos 10 ∷ pos 12 ∷ negsuc 0 ∷ pos 1 ∷ pos 1 ∷ pos 1 ∷ negsuc 5 ∷ negsuc 2 ∷ []
  -- P3: the shortest stream has 71 bits. These are the bytes FF 83 BF E1 27 BF F7 BD, and 7 bits of a ninth
  pub p3 : Shortest (tables_in named_default 0) values_p3 (take 71 (bits_in bytes_p3))
  -- P4: a stored code, its lowest bit first
  pub p4 : low_first 4 11 ≡ 1 ∷ 1 ∷ 0 ∷ 1 ∷ []
  -- P5: the two tables keep their rule, and 92 bits are read to the values. The 11th value, from bit 44 on, switches to table 2, and the
  -- 16th, from bit 75 on, back to table 1
  pub p5_tables : section2_right 0 two_tables 0 ≡ true
  pub p5 : Stream (tables_in two_tables 0) values_p5 bits_p5
  pub p5_switch : read_next (tables_in two_tables 0) 1 (drop 44 bits_p5) ≡ gave (pos 0) 2 (drop 51 bits_p5)
  pub p5_back : read_next (tables_in two_tables 0) 2 (drop 75 bits_p5) ≡ gave (pos 0) 1 (drop 79 bits_p5)
  -- P6: the shortest stream for the same values has 87 bits
  pub p6 : Shortest (tables_in two_tables 0) values_p5
      (take 87 (bits_in (153 ∷ 94 ∷ 6 ∷ 240 ∷ 72 ∷ 215 ∷ 135 ∷ 215 ∷ 134 ∷ 166 ∷ 216 ∷ [])))
  -- P7: the shortest stream for 15 has 12 bits; for 15 15 it has 22, and table 2 is current after the first value
  pub p7_once : Shortest (tables_in two_tables 0) (pos 15 ∷ []) (take 12 (bits_in (240 ∷ 240 ∷ [])))
  pub p7_twice : Shortest (tables_in two_tables 0) (pos 15 ∷ pos 15 ∷ []) bits_p7
  pub p7_switch : read_next (tables_in two_tables 0) 1 bits_p7 ≡ gave (pos 15) 2 (drop 13 bits_p7)
  -- P8: N by the beat's length in ms and the interval in µs
  pub p8 : samples_in_beat 1000 2000 ≡ 500
  -- P9: the third value stored, and the refusal, by any tables that are right or by none, with work space enough and whatever the output
  pub p9_values : differences 2 samples_p9 ≡ negsuc 32767 ∷ pos 32767 ∷ negsuc 131069 ∷ []
  pub p9 : (s2 work out : List ℕ) (a : Coded) (w o : List ℕ) → tables_given_right s2 ≡ true → 3 * length (tables_given s2) ≤ length work
      → LeadEncoding s2 samples_p9 2 work out a w o → a.refusal ≡ 15
  -- P10: what the two fields show, and that it is not the same
  pub p10_fields : (step_at field007 0 ≡ Some (record { tag = 2; start = 3; end = 7 })) × (part field007 3 7 ≡ id007)
      × (step_at field7 0 ≡ Some (record { tag = 2; start = 3; end = 5 })) × (part field7 3 5 ≡ id7)
  pub p10 : same id007 id7 ≡ false
