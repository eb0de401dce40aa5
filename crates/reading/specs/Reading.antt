-- The reading rule (01, Code tables). The bits begin with a code of the table that is current: either it gives a value, or it switches
-- to another table, and the bits behind it are read by that one in the same way. `tables` are those that Section 2's data mean; the
-- empty list means a record without Section 2.
use Rattle.std.specs.Prelude.{ℕ, zero, suc, ◌+◌, ◌*◌, cond, List, [], ◌∷◌, ℤ, leb, eqb, length, take, drop}
use Rattle.std.proofs.Math.Option.{Option, none, some}
use Rattle.bits.specs.Bits.{number_of, signed, begins}
use Rattle.tables.specs.declared.Structure.{Structure}
use Rattle.tables.specs.Structures.{prefix_of, remainder_of}
use Rattle.tables.specs.Section2.{table_of}

-- the result of reading a value: the value, the table that is current after it, and the bits that are left; or no value, since the
-- bits begin with no code, or end within one
pub data Next : Type 0 where
  gave : ℤ → ℕ → List ℕ → Next
  stuck : Next

-- the structure of a table whose prefix the bits begin with; in a table that keeps its rule there is at most one
unfoldable pub matching : List Structure → List ℕ → Option Structure
matching [] bs = none
matching (c ∷ cs) bs = cond (begins (prefix_of c) bs) (some c) (matching cs bs)

-- the value behind a prefix: without a remainder it is the base value; else it is what the remainder's bits are in two's complement,
-- highest bit first, whatever the base value is
unfoldable pub value_of : ℕ → ℕ → ℕ → List ℕ → Next
value_of zero base table bs = gave (signed 16 base) table bs
value_of (suc r) base table bs =
    cond (leb (suc r) (length bs)) (gave (signed (suc r) (number_of (take (suc r) bs))) table (drop (suc r) bs)) stuck

-- what a matched structure does: a switch gives no value, and reading goes on in the table that its base value numbers.
-- Where nothing matched, there is no value
unfoldable pub after_match : (ℕ → List ℕ → Next) → Option Structure → ℕ → List ℕ → Next
after_match carryOn none table bs = stuck
after_match carryOn (some c) table bs =
    cond (eqb c.mode 0) (carryOn c.base (drop c.prefix bs)) (value_of (remainder_of c) c.base table (drop c.prefix bs))

-- a value read by at most this many codes
unfoldable pub read_within : ℕ → List (List Structure) → ℕ → List ℕ → Next
read_within zero tables table bs = stuck
read_within (suc codes) tables table bs =
    after_match (read_within codes tables) (matching (table_of tables table) bs) table bs

-- a value read by the tables: a code takes a bit at least, so there are no more codes than bits
unfoldable pub read_coded : List (List Structure) → ℕ → List ℕ → Next
read_coded tables table bs = read_within (length bs) tables table bs

-- with no Section 2 a value is two signed bytes, the least first
unfoldable pub read_plain : ℕ → List ℕ → Next
read_plain table bs =
    cond (leb 16 (length bs))
    (gave (signed 16 (number_of (take 8 bs) + number_of (take 8 (drop 8 bs)) * 256)) table (drop 16 bs))
    stuck

-- the next value of a stream
unfoldable pub read_next : List (List Structure) → ℕ → List ℕ → Next
read_next [] table bs = read_plain table bs
read_next (t ∷ ts) table bs = read_coded (t ∷ ts) table bs
