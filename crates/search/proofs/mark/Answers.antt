use Prim.Native.Nat.{◌≤◌}
use Rattle.search.proofs.Laws.{count_most, small_forms}
use native.Mathlib.Omega.{arith}
use Rattle.search.proofs.Choices.{marked_more}
use Rattle.search.proofs.mark.Goals as goal

pub loop-t-preserved : goal.loop-t-preserved
loop-t-preserved c = let a = c.args in
    let l = c.loop-t in
    marked_more a.tab.now a.first.now a.cur.now a.marks.now l.marks a.n l.t c.pick.result (omega arith)
    (omega arith) (omega arith) l.invariant (rw c.from.ensures at c.pick.ensures)

pub invariant_of-table : goal.invariant_of-table
invariant_of-table c =
    let r = c.requires.0 in
    let h : (1 ≤ c.loop-t.t) × (c.loop-t.t ≤ 8) = omega (arith, r.1.most, r.2) in
    record { room = r.1.room; one_of_eight = h; few = count_most r.1 c.loop-t.t h; small = small_forms r.1 c.loop-t.t h }
