-- The tables that Section 2's data mean as the tables of the search, and the stream without them. No public contract rests on this.
use Rattle.std.specs.Prelude.{ℕ, zero, suc, ◌-◌, ◌%◌, ◌^◌, Bool, false, cond, List, [], ◌∷◌, ◌++◌, ltb, eqb, ℤ, pos, negsuc, length, get_or}
use Rattle.std.specs.Int.Signed.{mag}
use Rattle.wire.specs.Numbers.{bytes_of}
use Rattle.bits.specs.Bits.{high_first, bits_in, signed}
use Rattle.tables.specs.declared.Structure.{Structure}
use Rattle.tables.specs.Structures.{prefix_of, remainder_of, no_structure}
use Rattle.tables.specs.Section2.{table_of}
use Rattle.paths.specs.InnerPaths.{Kind, dead, gives, leads, Codes}

-- the number that the w bits of a whole number in two's complement are without a sign
unfoldable pub twos : ℕ → ℤ → ℕ
twos w (pos n) = n % 2 ^ w
twos w (negsuc n) = 2 ^ w - suc (n % 2 ^ w)

-- w + 1 bits hold a whole number
unfoldable pub holds : ℕ → ℤ → Bool
holds w v = ltb (mag v) (2 ^ w)

-- two whole numbers are equal
unfoldable pub equal : ℤ → ℤ → Bool
equal (pos m) (pos n) = eqb m n
equal (pos m) (negsuc n) = false
equal (negsuc m) (pos n) = false
equal (negsuc m) (negsuc n) = eqb m n

-- a value's structure has a code for v: without a remainder, for the base value; with one, for what its bits hold
unfoldable pub serves : ℕ → ℕ → ℤ → Bool
serves zero base v = equal (signed 16 base) v
serves (suc w) base v = holds w v

-- what a structure does for v, and its code word
unfoldable pub kind_of : Structure → ℤ → Kind
kind_of c v = cond (eqb c.mode 0) (leads c.base) (cond (serves (remainder_of c) c.base v) gives dead)

unfoldable pub word_of : Structure → ℤ → List ℕ
word_of c v = prefix_of c ++ high_first (remainder_of c) (twos (remainder_of c) v)

-- structure k of table t
abbrev pub structure_of : List (List Structure) → ℕ → ℕ → Structure
structure_of tables t k = get_or (table_of tables t) k no_structure

-- the tables as the search knows them: a word and a kind for each structure and value
abbrev pub rule : List (List Structure) → Codes ℤ
rule tables = record {
  tables = length tables;
  count = λ t. length (table_of tables t);
  word = λ t k v. word_of (structure_of tables t k) v;
  kind = λ t k v. kind_of (structure_of tables t k) v;
}

-- without Section 2: each value's 16 bits in two's complement, as two bytes, the least first
unfoldable pub plain_bytes : List ℤ → List ℕ
plain_bytes [] = []
plain_bytes (v ∷ vs) = bytes_of 2 (twos 16 v) ++ plain_bytes vs

-- the same as bits
unfoldable pub plain_bits : List ℤ → List ℕ
plain_bits vs = bits_in (plain_bytes vs)
