use mathlib.Core.Path.{◌≡◌}
use Prim.Native.Nat.{suc, ◌+◌, ◌-◌}
use native.Mathlib.Omega.{arith}
use Rattle.tables.specs.Section2.{after_tables}
use Rattle.tables.proofs.after_tables.Goals as goal

pub loop-preserved : goal.loop-preserved
unfolding after_tables
loop-preserved c = let l = c.loop in
    let e : c.args.n - l.counter ≡ suc (c.args.n - (l.counter + 1)) = omega arith in
    (omega arith, rw c.after_table-from.ensures.0 (rw e at l.invariant.1))

pub returns : goal.returns
unfolding after_tables
returns c = let l = c.loop in
    let e : c.args.n - l.counter ≡ 0 = omega arith in
    (rw e at l.invariant.1, omega arith)
