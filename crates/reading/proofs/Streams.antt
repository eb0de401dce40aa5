-- The structures compared for the values of a stream, and the bits read: the two sums go side by side with reading. Assumes nothing.
use Prim.Native.Nat.{ℕ, zero, suc, ◌+◌, ◌-◌, ◌*◌, ◌≤◌}
use mathlib.Core.Path.{◌≡◌, refl}
use mathlib.Core.Bool.{true}
use mathlib.Core.List.{List, []}
use native.Mathlib.Omega.{arith}
use lib.IntN.{ℤ}
use lib.ListN.{length}
use Rattle.wire.specs.Bounds.{most_structures}
use Rattle.wire.specs.RuleWords.{every}
use Rattle.tables.specs.declared.Structure.{Structure}
use Rattle.tables.specs.Section2.{table_right}
use Rattle.reading.specs.Reading.{Next, gave, stuck, read_next}
use Rattle.reading.specs.Compared.{compared_next, behind_value, compared_from, bits_from}
use Rattle.reading.proofs.Behind.{compared_few}

-- a value that was read, and those behind it
module _ (tables : List (List Structure)) (left table : ℕ) (bs : List ℕ) {v : ℤ} {next : ℕ} {rest : List ℕ}
    (read : read_next tables table bs ≡ gave v next rest) where
  pub compared_more : compared_from tables (suc left) table bs ≡ compared_next tables table bs + compared_from tables left next rest
  unfolding compared_from
  compared_more = rw read

  pub bits_more : bits_from tables (suc left) table bs ≡ length bs - length rest + bits_from tables left next rest
  unfolding bits_from
  bits_more = rw read

-- without tables nothing is compared
pub compared_none : (left table : ℕ) (bs : List ℕ) → compared_from [] left table bs ≡ 0
unfolding compared_from compared_next
compared_none zero table bs = refl
compared_none (suc left) table bs = go (read_next [] table bs) (compared_none left)
  where
    go : (r : Next) → ((next : ℕ) (rest : List ℕ) → compared_from [] left next rest ≡ 0)
        → behind_value (λ next rest. 0 + compared_from [] left next rest) r ≡ 0
    go (gave v next rest) none = omega (arith, none next rest)
    go stuck none = refl

-- no more bits are read than there are, and no more than 64 structures are compared for each
pub from_few : (n : ℕ) (tables : List (List Structure)) → every (table_right n) tables ≡ true → (left table : ℕ) (bs : List ℕ)
    → (compared_from tables left table bs ≤ most_structures * bits_from tables left table bs) × (bits_from tables left table bs ≤ length bs)
unfolding compared_from bits_from
from_few n tables right zero table bs = (omega arith, omega arith)
from_few n tables right (suc left) table bs = go (read_next tables table bs) refl (from_few n tables right left)
  where
    sums : Next → ℕ
    sums r = behind_value (λ next rest. compared_next tables table bs + compared_from tables left next rest) r

    bits : Next → ℕ
    bits r = behind_value (λ next rest. length bs - length rest + bits_from tables left next rest) r

    go : (r : Next) → read_next tables table bs ≡ r
        → ((next : ℕ) (rest : List ℕ)
        → (compared_from tables left next rest ≤ most_structures * bits_from tables left next rest) × (bits_from tables left next rest ≤ length rest))
        → (sums r ≤ most_structures * bits r) × (bits r ≤ length bs)
    go (gave v next rest) e few =
        let own = compared_few n tables right [] table bs v next rest e in
        let on = few next rest in
        (omega (arith, own, on), omega (arith, own, on))
    go stuck e few = (omega arith, omega arith)
