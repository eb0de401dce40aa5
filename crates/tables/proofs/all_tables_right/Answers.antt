use mathlib.Core.Path.{◌≡◌}
use Prim.Native.Nat.{suc, ◌+◌, ◌-◌}
use native.Mathlib.Omega.{arith}
use Rattle.tables.specs.Section2.{tables_from}
use Rattle.wire.proofs.Tests.{kept, broken}
use Rattle.wire.specs.RuleWords.{every}
use Rattle.tables.proofs.Laws.{after_right}
use Rattle.tables.proofs.all_tables_right.Goals as goal

pub returns-then-not-table_right : goal.returns-then-not-table_right
unfolding every tables_from
returns-then-not-table_right c = let l = c.loop in
    let e : c.args.n - l.counter ≡ suc (c.args.n - (l.counter + 1)) = omega arith in
    rw (e, broken c.table_right.ensures c.if-not-table_right.true) at l.invariant.1

pub loop-preserved : goal.loop-preserved
unfolding every tables_from
loop-preserved c = let l = c.loop in
    let first = kept c.table_right.ensures c.if-not-table_right.false in
    let e : c.args.n - l.counter ≡ suc (c.args.n - (l.counter + 1)) = omega arith in (
      omega (arith, after_right c.args.tables c.args.s.now l.from first),
      rw c.after_table-from.ensures.0 (rw (e, first) at l.invariant.1),
    )

pub returns : goal.returns
unfolding every tables_from
returns c = let l = c.loop in
    let e : c.args.n - l.counter ≡ 0 = omega arith in
    rw e at l.invariant.1
