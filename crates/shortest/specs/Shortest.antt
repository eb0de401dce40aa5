-- The promise on a stream (the customer's third demand, quoted in crates/answers/specs/Demands.antt; row 15 and the tie: 01,
-- Refusal numbers). Among all streams that the reading rule, starting in table 1, takes to these values with nothing left, the shortest
-- has the fewest bits, and where others have as few, it is the one that has a 0 where another first differs from it. The values are the
-- differences of a lead's samples: a stream reads to the samples exactly if it reads to these. `tables` are those that Section 2's data
-- mean; the empty list means no Section 2.
use Rattle.std.specs.Prelude.{ℕ, ◌≤◌, ◌≡◌, Bool, true, List, [], ◌∷◌, ◌⊎◌, ltb, ℤ, length}
use Rattle.wire.specs.RuleWords.{every}
use Rattle.tables.specs.declared.Structure.{Structure}
use Rattle.reading.specs.Reading.{gave, read_next}
use Rattle.paths.specs.Before.{Before}

-- every element is a bit
unfoldable pub are_bits : List ℕ → Bool
are_bits bs = every (λ b. ltb b 2) bs

-- from a table on, reading value after value takes the bits to these values, with nothing left
pub data ReadsTo (tables : List (List Structure)) : ℕ → List ℕ → List ℤ → Type 0 where
  done : {table : ℕ} → ReadsTo tables table [] []
  value : {table next : ℕ} {bs rest : List ℕ} {v : ℤ} {vs : List ℤ} →
      read_next tables table bs ≡ gave v next rest → ReadsTo tables next rest vs → ReadsTo tables table bs (v ∷ vs)

-- a stream for these values: bits that are read to them from table 1 on
pub record Stream (tables : List (List Structure)) (vs : List ℤ) (bs : List ℕ) : Type 0 where
  pub bits : are_bits bs ≡ true
  pub reads : ReadsTo tables 1 bs vs

-- the shortest stream for these values, and of equally short ones the one that comes before all others
pub record Shortest (tables : List (List Structure)) (vs : List ℤ) (bs : List ℕ) : Type 0 where
  pub stream : Stream tables vs bs
  pub fewest : (other : List ℕ) → Stream tables vs other → length bs ≤ length other
  pub smaller : (other : List ℕ) → Stream tables vs other → length other ≡ length bs → (bs ≡ other) ⊎ Before bs other

-- no stream reads to these values
abbrev pub NoStream : List (List Structure) → List ℤ → Type 0
NoStream tables vs = (bs : List ℕ) → Stream tables vs bs → ⊥
