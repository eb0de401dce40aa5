use Prim.Native.Nat.{◌≤◌}
use Rattle.search.proofs.Laws.{count_most, small_forms}
use Prim.Native.Nat.{◌<◌}
use native.Mathlib.Omega.{arith}
use lib.ListN.{length, length-set}
use Rattle.search.proofs.Settling.{total_set, quiet_none, set_less, met_set}
use Rattle.search.proofs.settle.Goals as goal

pub loop-quiet-smaller-then-r-cur : goal.loop-quiet-smaller-then-r-cur
loop-quiet-smaller-then-r-cur c = let l = c.loop-quiet in
    omega (arith, total_set l.cur l.t c.relax-r.result (omega (arith, l.invariant.4)) c.if-r-cur.true)

pub loop-quiet-preserved-then-r-cur : goal.loop-quiet-preserved-then-r-cur
loop-quiet-preserved-then-r-cur c = let a = c.args in
    let l = c.loop-quiet in
    let r = c.relax-r in
    let f = c.following-t in
    let room : l.t < length l.cur = omega (arith, l.invariant.4) in (
      f.ensures.1,
      f.ensures.2,
      omega arith,
      l.invariant.3,
      simp length-set l.invariant.4,
      λ u h. omega (arith, set_less l.cur l.t r.result room c.if-r-cur.true u, l.invariant.5 u h),
      quiet_none a.tab.now a.n _ f.result f.ensures.1,
      λ tables x vs ready e met.
          met_set ready l.cur l.t r.result x vs (omega arith) room r.ensures (l.invariant.7 tables x vs ready e met),
    )

pub invariant_of-relax : goal.invariant_of-relax
invariant_of-relax c =
    let r = c.requires.0 in
    let h : (1 ≤ c.loop-quiet.t) × (c.loop-quiet.t ≤ 8) = omega (arith, r.1.most, r.2) in
    record { room = r.1.room; one_of_eight = h; few = count_most r.1 c.loop-quiet.t h; small = small_forms r.1 c.loop-quiet.t h }
