use Prim.Native.Nat.{ℕ, ◌+◌, ◌-◌, ◌<◌}
use mathlib.Core.Path.{◌≡◌, sym, ap, ◌∙◌}
use mathlib.Core.Bool.{true}
use mathlib.Core.List.{[]}
use native.Mathlib.Omega.{arith}
use lib.ListN.{length, get_or, drop}
use Rattle.wire.specs.Numbers.{number_at}
use Rattle.tables.specs.Structures.{structures_at}
use Rattle.tables.specs.Section2.{table_at, after_table, tables_from, table_right}
use Rattle.wire.proofs.Every.{every_at}
use Rattle.tables.proofs.Laws.{table_right_lem, length_structures_at, length_tables, after_right}
use Rattle.compiled.proofs.Putting.{tables_next, tables_turn}
use Rattle.compiled.proofs.put_tables.Goals as goal
use Rattle.compiled.proofs.put_tables.Goals.{In-loop-t}

-- the table at the place that the loop has reached is the next
next : (c : In-loop-t) →
    let a = c.args in
    let l = c.loop-t in
    let all = tables_from a.s.now a.o a.n in
    (get_or all l.t [] ≡ table_at a.s.now l.from)
    × (tables_from a.s.now (after_table a.s.now l.from) (a.n - (l.t + 1)) ≡ drop (l.t + 1) all)
next c =
    let a = c.args in
    let l = c.loop-t in
    tables_next a.s.now l.from a.n l.t (tables_from a.s.now a.o a.n) (omega arith) l.invariant.1

-- so it is right
right : (c : In-loop-t) →
    let a = c.args in
    table_right a.n (table_at a.s.now c.loop-t.from) ≡ true
right c =
    let a = c.args in
    let l = c.loop-t in
    let all = tables_from a.s.now a.o a.n in
    let within : l.t < length all = omega (arith, length_tables a.s.now a.o a.n) in
    rw (next c).0 at (every_at (table_right a.n) [] all c.requires.n_value l.t within)

pub put_table-requires : goal.put_table-requires
unfolding table_at
put_table-requires c =
    let a = c.args in
    let l = c.loop-t in
    let r = table_right_lem a.n (table_at a.s.now l.from) (right (goal.at.put_table-requires c).In-loop-t) in
    let n = c.number16.ensures.0 in
    let most = rw (length_structures_at a.s.now (l.from + 2) (number_at 2 a.s.now l.from)) at r.most in
    record { tab_len = (omega arith, omega arith, omega arith, omega arith); n_value = rw n r.right }

pub loop-t-preserved : goal.loop-t-preserved
unfolding table_at
loop-t-preserved c =
    let a = c.args in
    let l = c.loop-t in
    let all = tables_from a.s.now a.o a.n in
    let n = c.number16.ensures.0 in
    let here = (next (goal.at.loop-t-preserved c).In-loop-t).0 ∙ ap (structures_at a.s.now (l.from + 2)) (sym n) in (
      omega (arith, c, after_right a.n a.s.now l.from (right (goal.at.loop-t-preserved c).In-loop-t)),
      ap (λ (o : ℕ). tables_from a.s.now o (a.n - (l.t + 1))) c.after_table-from.ensures.0 ∙ (next (goal.at.loop-t-preserved c).In-loop-t).1,
      tables_turn a.n all l.tab c.put_table.new.tab l.t c.requires.n_value
          (omega (arith, c, length_tables a.s.now a.o a.n))
          l.invariant.2
          (rw here c.put_table.ensures),
    )
