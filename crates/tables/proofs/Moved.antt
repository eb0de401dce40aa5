-- Section 2's data, moved on behind a section's header: the tables are the same, and what keeps its rule alone keeps it there. Assumes
-- nothing.
use Prim.Native.Nat.{ℕ, zero, suc, ◌+◌}
use mathlib.Core.Path.{◌≡◌, refl}
use mathlib.Core.Bool.{Bool, true, false, ◌&&◌, cond, and-eq-true_iff}
use mathlib.Core.List.{List}
use native.Mathlib.Nat.{add_assoc}
use native.Mathlib.Omega.{arith}
use lib.Dec.{leb, eqb}
use Rattle.wire.specs.Numbers.{byte_at, number_at}
use Rattle.wire.specs.RuleWords.{every, ends_by}
use Rattle.wire.proofs.Places.{Moved, moved_number, moved_end}
use Rattle.tables.specs.Structures.{structure_at, structures_at}
use Rattle.tables.specs.Section2.{is_default, table_at, after_table, tables_from, after_tables, tables_in, table_right, section2_right}

module _ {r s : List ℕ} (m : Moved r 16 s) where
  structure_moved : (o : ℕ) → structure_at r (16 + o) ≡ structure_at s o
  unfolding structure_at
  structure_moved o = rw (m.byte o, byte 1, byte 2, number 2 3, number 4 5)
    where
      byte : (i : ℕ) → byte_at r (16 + o + i) ≡ byte_at s (o + i)
      byte i = rw (add_assoc 16 o i) (m.byte (o + i))

      number : (w i : ℕ) → number_at w r (16 + o + i) ≡ number_at w s (o + i)
      number w i = rw (add_assoc 16 o i) (moved_number m w (o + i))

  structures_moved : (n o : ℕ) → structures_at r (16 + o) n ≡ structures_at s o n
  unfolding structures_at
  structures_moved zero o = refl
  structures_moved (suc n) o = rw (structure_moved o, add_assoc 16 o 9, structures_moved n (o + 9))

  table_moved : (o : ℕ) → table_at r (16 + o) ≡ table_at s o
  unfolding table_at
  table_moved o = rw (moved_number m 2 o, add_assoc 16 o 2, structures_moved (number_at 2 s o) (o + 2))

  after_moved : (o : ℕ) → after_table r (16 + o) ≡ 16 + after_table s o
  unfolding after_table
  after_moved o = rw (moved_number m 2 o) (omega arith)

  tables_moved : (n o : ℕ) → tables_from r (16 + o) n ≡ tables_from s o n
  unfolding tables_from
  tables_moved zero o = refl
  tables_moved (suc n) o = rw (table_moved o, after_moved o, tables_moved n (after_table s o))

  after_all_moved : (n o : ℕ) → after_tables r (16 + o) n ≡ 16 + after_tables s o n
  unfolding after_tables
  after_all_moved zero o = refl
  after_all_moved (suc n) o = rw (after_moved o, after_all_moved n (after_table s o))

  -- the number of tables
  count_moved : number_at 2 r 16 ≡ number_at 2 s 0
  count_moved = moved_number m 2 0

  -- the tables are the same
  pub tables_there : tables_in r 16 ≡ tables_in s 0
  unfolding tables_in is_default
  tables_there = rw (count_moved, tables_moved (number_at 2 s 0) 2)

  -- data that keep their rule keep it behind a header
  pub section2_moved : section2_right 0 s 0 ≡ true → section2_right 1 r 16 ≡ true
  unfolding section2_right is_default
  section2_moved g =
      rw (count_moved, tables_moved (number_at 2 s 0) 2, after_all_moved (number_at 2 s 0) 2) (go (eqb (number_at 2 s 0) 19999) g)
    where
      n : ℕ
      n = number_at 2 s 0

      all : Bool
      all = every (table_right n) (tables_from s 2 n)

      own : (a b c : Bool) (end : ℕ) → a && (b && (c && ends_by 0 s end)) ≡ true
          → a && (b && (c && ends_by 1 r (16 + end))) ≡ true
      own a b c end g =
          let p = (and-eq-true_iff a _).0 g in
          let q = (and-eq-true_iff b _).0 p.1 in
          let w = (and-eq-true_iff c _).0 q.1 in
          rw (p.0, q.0, w.0) (moved_end m end w.1)

      go : (b : Bool)
          → cond b (ends_by 0 s 2) (leb 1 n && (leb n 8 && (all && ends_by 0 s (after_tables s 2 n)))) ≡ true
          → cond b (ends_by 1 r 18) (leb 1 n && (leb n 8 && (all && ends_by 1 r (16 + after_tables s 2 n)))) ≡ true
      go true g = moved_end m 2 g
      go false g = own (leb 1 n) (leb n 8) all (after_tables s 2 n) g
