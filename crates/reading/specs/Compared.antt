-- How many structures reading compares (01, Code tables; Q-6). The bits are compared with the structures of the current table one after
-- another, up to the one that matches: so the number for a code is the place of the matched structure in its table, from 1. An engine
-- that looks at another structure first reports this number all the same. Where no value can be read no number is reported.
use Rattle.std.specs.Prelude.{ℕ, zero, suc, ◌+◌, ◌-◌, cond, List, [], ◌∷◌, eqb, length, drop}
use Rattle.std.proofs.Math.Option.{Option, none, some}
use Rattle.bits.specs.Bits.{begins}
use Rattle.tables.specs.declared.Structure.{Structure}
use Rattle.tables.specs.Structures.{prefix_of}
use Rattle.tables.specs.Section2.{table_of}
use Rattle.reading.specs.Reading.{Next, gave, stuck, matching, read_next}

-- ---- a code

-- the structures of a table up to the one whose prefix the bits begin with, that one counted; where there is none, all of them
unfoldable pub compared_in : List Structure → List ℕ → ℕ
compared_in [] bs = 0
compared_in (c ∷ cs) bs = suc (cond (begins (prefix_of c) bs) 0 (compared_in cs bs))

-- ---- a value: all of its codes, switches included

-- a structure of the table cs is matched: behind a switch reading carries on in the table that its base value numbers; a value is the
-- last code. Where nothing matched, there is no code to count
unfoldable pub compared_after : (ℕ → List ℕ → ℕ) → List Structure → Option Structure → List ℕ → ℕ
compared_after carryOn cs none bs = 0
compared_after carryOn cs (some c) bs = compared_in cs bs + cond (eqb c.mode 0) (carryOn c.base (drop c.prefix bs)) 0

-- over at most this many codes
unfoldable pub compared_within : ℕ → List (List Structure) → ℕ → List ℕ → ℕ
compared_within zero tables table bs = 0
compared_within (suc codes) tables table bs =
    compared_after (compared_within codes tables) (table_of tables table) (matching (table_of tables table) bs) bs

-- over all codes of a value: a code takes a bit at least, so there are no more codes than bits
unfoldable pub compared_coded : List (List Structure) → ℕ → List ℕ → ℕ
compared_coded tables table bs = compared_within (length bs) tables table bs

-- the next value of a stream; with no Section 2 there is no structure to compare
unfoldable pub compared_next : List (List Structure) → ℕ → List ℕ → ℕ
compared_next [] table bs = 0
compared_next (t ∷ ts) table bs = compared_coded (t ∷ ts) table bs

-- ---- a stream: value after value, as the reading rule reads them

-- what is counted from a value on, given the table and the bits behind it; 0 where no value can be read
abbrev pub behind_value : (ℕ → List ℕ → ℕ) → Next → ℕ
behind_value go_on (gave v table bs) = go_on table bs
behind_value go_on stuck = 0

-- the structures compared for the `left` values that are left, where `table` is current and `bs` are the bits that are not read yet;
-- values behind one that cannot be read add nothing
unfoldable pub compared_from : (tables : List (List Structure)) (left table : ℕ) (bs : List ℕ) → ℕ
compared_from tables zero table bs = 0
compared_from tables (suc left) table bs =
    behind_value (λ next rest. compared_next tables table bs + compared_from tables left next rest) (read_next tables table bs)

-- how many bits the codes of these values have: the bits read. Bits left over behind the last code do not count
unfoldable pub bits_from : (tables : List (List Structure)) (left table : ℕ) (bs : List ℕ) → ℕ
bits_from tables zero table bs = 0
bits_from tables (suc left) table bs =
    behind_value (λ next rest. (length bs - length rest) + bits_from tables left next rest) (read_next tables table bs)

-- of a lead's or a beat's stream, by how many values it has: each starts in table 1
unfoldable pub compared_of : List (List Structure) → ℕ → List ℕ → ℕ
compared_of tables count bs = compared_from tables count 1 bs

unfoldable pub bits_read : List (List Structure) → ℕ → List ℕ → ℕ
bits_read tables count bs = bits_from tables count 1 bs
