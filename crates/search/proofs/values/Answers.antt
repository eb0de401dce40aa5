use Prim.Native.Nat.{◌≤◌}
use Rattle.search.proofs.Laws.{count_most, small_forms}
use Prim.Native.Nat.{suc}
use native.Mathlib.Omega.{arith}
use lib.ListN.{length-set}
use Rattle.search.specs.InnerSearch.{cap, IsNearest, Known}
use Rattle.search.proofs.Served.{valued, valued_more, set_most}
use Rattle.search.proofs.values.Goals as goal
use Rattle.search.proofs.values.Goals.{Joined-recall, in-Some, in-None}

-- the value's structure was known, or was looked for
found : (c : Joined-recall) → let a = c.args in
    IsNearest a.tab.now c.loop-t.t a.v c.match-recall.k × Known a.tab.now c.match-recall.known
found c =
    let K = c.loop-t.invariant.known in
    elim c.match-recall.branch [
      | in-Some w ↦ rw (w.k-is, w.known-is) (w.in-Some.ensures K, K)
      | in-None w ↦ rw (w.k-is, w.known-is) w.learn-k.ensures
    ]

pub loop-t-preserved : goal.loop-t-preserved
loop-t-preserved c = let a = c.args in
    let l = c.loop-t in
    let p = c.requires in
    let k = c.match-recall.k in
    let K = found (goal.at.loop-t-preserved c).Joined-recall in
    let r = c.value_cost in record {
      nine = simp length-set l.invariant.nine;
      most = set_most l.cur l.t r.result (suc cap) (omega (arith, l.invariant.nine, p.0.1.most, p.0.2)) r.ensures.2 l.invariant.most;
      valued = λ tables ready.
          valued_more tables a.next.now l.marks l.cur a.v l.t k r.result (omega arith)
          (omega arith) (omega (arith, l.invariant.nine, p.0.1.most, p.0.2)) (l.invariant.valued tables ready)
          (valued ready a.next.now a.v l.t k r.result (omega (arith, p.0.1.most, p.0.2)) (K.0.0 tables ready) r.ensures.0 r.ensures.1);
      known = K.1;
    }

pub invariant_of-table : goal.invariant_of-table
invariant_of-table c =
    let r = c.requires.0 in
    let h : (1 ≤ c.loop-t.t) × (c.loop-t.t ≤ 8) = omega (arith, r.1.most, r.2) in
    record { room = r.1.room; one_of_eight = h; few = count_most r.1 c.loop-t.t h; small = small_forms r.1 c.loop-t.t h }
