-- Code structures (01, Code tables). A structure is prefix bits, whole-code bits, mode, base value and base code. The base value is
-- held here as its two bytes are without a sign; `signed 16` is the value.
use Rattle.std.specs.Prelude.{ℕ, zero, suc, ◌+◌, ◌-◌, ◌^◌, Bool, true, not, ◌&&◌, cond, List, [], ◌∷◌, leb, ltb, eqb}
use Rattle.wire.specs.Numbers.{byte_at, number_at}
use Rattle.wire.specs.RuleWords.{every}
use Rattle.bits.specs.Bits.{low_first, begins}
use Rattle.tables.specs.declared.Structure.{Structure}

-- the structure in the nine bytes from a place on: those five numbers in that order, in 1, 1, 1, 2 and 4 bytes
unfoldable pub structure_at : List ℕ → ℕ → Structure
structure_at s o = record {
  prefix = byte_at s o;
  whole = byte_at s (o + 1);
  mode = byte_at s (o + 2);
  base = number_at 2 s (o + 3);
  code = number_at 4 s (o + 5);
}

-- past the end of a table: where a structure is asked for by its place and there is none
abbrev pub no_structure : Structure
no_structure = record { prefix = 0; whole = 0; mode = 0; base = 0; code = 0 }

-- n structures, one after another
unfoldable pub structures_at : List ℕ → ℕ → ℕ → List Structure
structures_at s o zero = []
structures_at s o (suc n) = structure_at s o ∷ structures_at s (o + 9) n

-- the bits of the prefix in the order in which they are read, which is from the base code's lowest bit upwards
abbrev pub prefix_of : Structure → List ℕ
prefix_of c = low_first c.prefix c.code

-- how many bits follow the prefix: the remainder
abbrev pub remainder_of : Structure → ℕ
remainder_of c = c.whole - c.prefix

-- mode 0 is a switch: the lengths are equal, and the base value is the number of one of the tables (a negative one is 32,768 or
-- more here, and there are at most 8 tables). Mode 1 is a value. There is no other mode.
unfoldable pub mode_right : ℕ → Structure → Bool
mode_right tables c =
    cond (eqb c.mode 0) (eqb c.whole c.prefix && (leb 1 c.base && leb c.base tables)) (eqb c.mode 1)

-- a prefix of 1 to 32 bits, a remainder of 0 to 16, the bits above the prefix 0, and the mode by its rule
unfoldable pub structure_right : ℕ → Structure → Bool
structure_right tables c =
    leb 1 c.prefix
    && (leb c.prefix 32
    && (leb c.prefix c.whole
    && (leb (remainder_of c) 16 && (ltb c.code (2 ^ c.prefix) && mode_right tables c))))

-- neither prefix begins the other or equals it
unfoldable pub apart : Structure → Structure → Bool
apart c d = not (begins (prefix_of c) (prefix_of d)) && not (begins (prefix_of d) (prefix_of c))

-- any two structures of a table are apart
unfoldable pub prefix_free : List Structure → Bool
prefix_free [] = true
prefix_free (c ∷ cs) = every (apart c) cs && prefix_free cs
