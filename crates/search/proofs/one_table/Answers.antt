use Prim.Native.Nat.{◌≤◌}
use Rattle.search.proofs.Laws.{count_most, small_forms}
use Prim.Native.Nat.{ℕ, ◌-◌, ◌<◌}
use mathlib.Core.Path.{subst}
use mathlib.Core.List.{List, [], ◌∷◌}
use native.Mathlib.Omega.{arith}
use lib.ListN.{length, set, drop}
use Rattle.samples.specs.Differences.{differences}
use Rattle.samples.proofs.Laws.{length_differences}
use Rattle.paths.specs.InnerPaths.{Exact}
use Rattle.shortest.specs.InnerRule.{rule}
use Rattle.search.specs.InnerSearch.{cap, at, IsNearest, Known}
use Rattle.search.proofs.Layers.{zeros_exact, step_exact, step_trail, alone, one_layer, set_in, set_out}
use Rattle.search.proofs.one_table.Goals as goal
use Rattle.search.proofs.one_table.Goals.{Joined-recall, in-Some, in-None}

-- the value's structure was known, or was looked for
found : (c : Joined-recall) → let a = c.args in
    IsNearest a.tab.now 1 c.value_at-v.result c.match-recall.k × Known a.tab.now c.match-recall.known
found c =
    let K = c.loop-i.invariant.1 in
    elim c.match-recall.branch [
      | in-Some w ↦ rw (w.k-is, w.known-is) (w.in-Some.ensures K, K)
      | in-None w ↦ rw (w.k-is, w.known-is) w.learn-k.ensures
    ]

pub loop-i-init : goal.loop-i-init
loop-i-init c = let a = c.args in
    let vs = differences a.order a.xs.now in
    let long = length_differences a.order a.xs.now in (
      omega arith,
      c.unknown-known.ensures a.tab.now,
      λ tables ready e. (
        subst (λ (m : ℕ). Exact (rule tables) cap (drop m vs) (at (alone 0))) long (zeros_exact tables vs ready.most),
        λ j t h g. absurd (omega (arith, long)),
      ),
    )

pub loop-i-preserved : goal.loop-i-preserved
loop-i-preserved c = let p = c.requires in
    let a = c.args in
    let l = c.loop-i in
    let k = c.match-recall.k in
    let K = found (goal.at.loop-i-preserved c).Joined-recall in
    let r = c.value_cost-cost in
    let vs = differences a.order a.xs.now in
    let there : l.i - 1 < length vs = omega (arith, length_differences a.order a.xs.now) in
    let room : l.i - 1 < length l.work = omega (arith, p.2) in
    let marks : List ℕ = k ∷ [] in
    let work = set l.work (l.i - 1) k in
    let is = c.value_at-v.ensures.0 in
    let new = set_in l.work (l.i - 1) k room in
    let old = set_out l.work (l.i - 1) k room in (
      r.ensures.2,
      K.1,
      λ tables ready e.
          let i = l.invariant.2 tables ready e in
          let own =
          one_layer ready e p.1 _ k l.cost r.result (drop l.i vs) i.0 K.0 r.ensures.0
          r.ensures.1 r.ensures.2 in (
            step_exact tables vs l.work work marks (alone r.result) 1 (l.i - 1) l.i _ e (omega arith) there is own new old i.1,
            step_trail tables vs l.work work marks (alone r.result) 1 (l.i - 1) l.i _ e (omega arith) there is own new old i.1,
          ),
    )

pub invariant_of-table : goal.invariant_of-table
invariant_of-table c =
    let r = c.requires.0 in
    let h : (1 ≤ 1) × (1 ≤ 8) = omega (arith, r.1.most, r.2) in
    record { room = r.1.room; one_of_eight = h; few = count_most r.1 1 h; small = small_forms r.1 1 h }
