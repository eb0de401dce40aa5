-- A value written by a structure of a right table is read back, whatever follows it. Assumes nothing.
use Prim.Native.Nat.{ℕ, zero, suc, ◌<◌, ◌^◌}
use mathlib.Core.Path.{◌≡◌, refl, sym, ap, ◌∙◌}
use mathlib.Core.Bool.{Bool, true, false, not, ◌&&◌}
use mathlib.Core.List.{List, [], ◌∷◌, ◌++◌}
use mathlib.Core.Option.{some}
use native.Mathlib.Omega.{arith}
use borrow.Author.Tests.{eq-eqb, eqb-true}
use lib.Dec.{eqb}
use lib.ListN.{length, get_or, drop, length-append}
use lib.Seq.{take_at, drop_at}
use Rattle.wire.specs.RuleWords.{every}
use Rattle.bits.specs.Bits.{high_first, signed, begins}
use Rattle.bits.proofs.Laws.{length_high_first, length_low_first, number_high, begins_append, begins_split}
use Rattle.tables.specs.declared.Structure.{Structure}
use Rattle.tables.specs.Structures.{prefix_of, remainder_of, apart, no_structure}
use Rattle.tables.specs.Section2.{table_of, table_right}
use Rattle.tables.proofs.Laws.{free_at}
use Rattle.reading.specs.Reading.{gave, matching, read_coded}
use Rattle.reading.specs.Compared.{compared_in}
use Rattle.reading.proofs.Laws.{table_there, read_switch, read_value, value_base, value_rest}

-- where neither of two lists begins the other, the one does not begin the other with more behind
apart_begins : (p q l : List ℕ) → not (begins p q) && not (begins q p) ≡ true → begins p (q ++ l) ≡ false
unfolding begins
apart_begins [] q l h = cc
apart_begins (a ∷ p) [] l h = cc
apart_begins (a ∷ p) (b ∷ q) l h = go (eqb a b) refl h (apart_begins p q l)
  where
    go : (e : Bool) → eqb a b ≡ e → not (e && begins p q) && not (eqb b a && begins q p) ≡ true
        → (not (begins p q) && not (begins q p) ≡ true → begins p (q ++ l) ≡ false) → e && begins p (q ++ l) ≡ false
    go false e g rest = refl
    go true e g rest = rest (rw (eq-eqb b a (sym (eqb-true a b e))) at g)

-- of structures that are apart, the one whose prefix was written is matched, at its own place
matching_apart : (cs : List Structure)
    → ((j k : ℕ) → j < k → k < length cs → apart (get_or cs j no_structure) (get_or cs k no_structure) ≡ true)
    → (k : ℕ) → k < length cs → (bs : List ℕ) →
    let l = prefix_of (get_or cs k no_structure) ++ bs in
    (matching cs l ≡ some (get_or cs k no_structure)) × (compared_in cs l ≡ suc k)
unfolding matching compared_in apart
matching_apart [] free k h bs = absurd (omega arith)
matching_apart (c ∷ cs) free zero h bs = let own = begins_append (prefix_of c) bs in (rw own, rw own)
matching_apart (d ∷ cs) free (suc k) h bs =
    let other = apart_begins (prefix_of d) (prefix_of (get_or cs k no_structure)) bs (free 0 (suc k) (omega arith) h) in
    let behind = matching_apart cs (λ i j g l. free (suc i) (suc j) (omega arith) (omega arith)) k (omega arith) bs in
    (rw other behind.0, rw other (ap suc behind.1))

-- so is one whose prefix the bits begin with
pub matching_begun : (cs : List Structure)
    → ((j k : ℕ) → j < k → k < length cs → apart (get_or cs j no_structure) (get_or cs k no_structure) ≡ true)
    → (k : ℕ) → k < length cs → (bs : List ℕ) → begins (prefix_of (get_or cs k no_structure)) bs ≡ true
    → (matching cs bs ≡ some (get_or cs k no_structure)) × (compared_in cs bs ≡ suc k)
matching_begun cs free k h bs e =
    let p = prefix_of (get_or cs k no_structure) in
    let own = matching_apart cs free k h (drop (length p) bs) in
    let split = begins_split p bs e in
    (ap (matching cs) split ∙ own.0, ap (compared_in cs) split ∙ own.1)

-- a structure c is at place k of a right table
module _ (n : ℕ) (tables : List (List Structure)) (right : every (table_right n) tables ≡ true) (table : ℕ) (k : ℕ) (c : Structure)
    (there : k < length (table_of tables table)) (stands : get_or (table_of tables table) k no_structure ≡ c) (bs : List ℕ) where
  -- it is the one that its own prefix matches, and just the structures up to it are compared
  own : (matching (table_of tables table) (prefix_of c ++ bs) ≡ some c) × (compared_in (table_of tables table) (prefix_of c ++ bs) ≡ suc k)
  own =
      let cs = table_of tables table in
      let free = (table_there n tables right table (omega arith)).free in
      rw stands at (matching_apart cs (free_at cs free) k there bs)

  pub matching_own : matching (table_of tables table) (prefix_of c ++ bs) ≡ some c
  matching_own = own.0

  pub compared_own : compared_in (table_of tables table) (prefix_of c ++ bs) ≡ suc k
  compared_own = own.1

  -- the bits behind its prefix
  behind : drop c.prefix (prefix_of c ++ bs) ≡ bs
  behind = drop_at (prefix_of c) bs c.prefix (length_low_first c.prefix c.code)

  -- a switch's prefix carries on in the table that it leads to
  pub trip_switch : c.mode ≡ 0 → read_coded tables table (prefix_of c ++ bs) ≡ read_coded tables c.base bs
  trip_switch m = read_switch n tables right table (prefix_of c ++ bs) c matching_own m ∙ ap (read_coded tables c.base) behind

  -- the prefix of a value without a remainder gives the base value
  pub trip_base : (c.mode ≡ 0 → ⊥) → remainder_of c ≡ 0 → read_coded tables table (prefix_of c ++ bs) ≡ gave (signed 16 c.base) table bs
  trip_base m e =
      read_value n tables right table (prefix_of c ++ bs) c matching_own m
      ∙ rw behind (value_base (remainder_of c) c.base table bs e)

-- a value's prefix and remainder give the number that the remainder is in two's complement
pub trip_rest : (n : ℕ) (tables : List (List Structure)) → every (table_right n) tables ≡ true → (table k : ℕ) (c : Structure)
    → k < length (table_of tables table) → get_or (table_of tables table) k no_structure ≡ c → (bs : List ℕ) → (c.mode ≡ 0 → ⊥)
    → (r v : ℕ) → remainder_of c ≡ r → 0 < r → v < 2 ^ r
    → read_coded tables table (prefix_of c ++ (high_first r v ++ bs)) ≡ gave (signed r v) table bs
trip_rest n tables right table k c there stands bs m zero v e h g = absurd (omega arith)
trip_rest n tables right table k c there stands bs m (suc w) v e h g =
    let r = suc w in
    let l = high_first r v ++ bs in
    let long = length_high_first r v in
    read_value n tables right table (prefix_of c ++ l) c (matching_own n tables right table k c there stands l) m
    ∙ rw (
      behind n tables right table k c there stands l,
      value_rest (remainder_of c) w c.base table l e (omega (arith, length-append (high_first r v) bs)),
      e,
      take_at (high_first r v) bs r long,
      drop_at (high_first r v) bs r long,
      number_high r v g,
    )
