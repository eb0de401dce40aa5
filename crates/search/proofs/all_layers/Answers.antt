use Prim.Native.Nat.{ℕ, ◌+◌, ◌-◌, ◌*◌, ◌≤◌, ◌<◌}
use mathlib.Core.Path.{◌≡◌, refl, ◌∙◌, subst}
use native.Mathlib.Omega.{arith}
use borrow.Rule.Slice.PartMut.{put_mid}
use lib.ListN.{length, drop, replicate, length-take, length-drop, get_or-replicate}
use Rattle.samples.specs.Differences.{differences}
use Rattle.samples.proofs.Laws.{length_differences}
use Rattle.paths.specs.InnerPaths.{Exact}
use Rattle.shortest.specs.InnerRule.{rule}
use Rattle.search.specs.InnerSearch.{cap, at}
use Rattle.search.proofs.Layers.{zeros_exact, part_room, put_in_lem, put_out, step_exact, step_trail}
use Rattle.search.proofs.all_layers.Goals as goal

pub loop-i-init : goal.loop-i-init
loop-i-init c = let a = c.args in
    let vs = differences a.order a.xs.now in
    let long = length_differences a.order a.xs.now in (
      (refl, λ t h. omega (arith, get_or-replicate {A = ℕ} 9 t 0 0 h)),
      c.unknown-known.ensures a.tab.now,
      λ tables ready e. (
        subst (λ (m : ℕ). Exact (rule tables) cap (drop m vs) (at (replicate 9 0))) long (zeros_exact tables vs ready.most),
        λ j t h g. absurd (omega (arith, long)),
      ),
    )

pub loop-i-preserved : goal.loop-i-preserved
loop-i-preserved c =
    let l = c.loop-i in
    let r = part_room l.i c.args.n (length c.args.xs.now) (length c.args.work.now) (omega arith) (omega arith)
    c.requires.2 in
    let a = c.args in
    let y = c.layer-next in
    let marks = y.new.marks in
    let vs = differences a.order a.xs.now in
    let from = (l.i - 1) * a.n in
    let work = put_mid from (from + a.n - from) l.work marks in
    let room : from + a.n ≤ length l.work = omega (arith, r) in
    let len : length marks ≡ a.n = y.auto.marks ∙ simp (length-take, length-drop) (omega arith) in
    let there : l.i - 1 < length vs = omega (arith, length_differences a.order a.xs.now) in
    let is = c.value_at-v.ensures.0 in
    let new = put_in_lem l.work marks from a.n len room in
    let old = put_out l.work marks from a.n len room in (
      y.ensures.1,
      y.ensures.2,
      λ tables ready e.
          let i = l.invariant.2 tables ready e in
          let own = y.ensures.0 tables (drop l.i vs) ready e i.0 in (
            step_exact tables vs l.work work marks y.result a.n (l.i - 1) l.i _ e (omega arith) there is own new old i.1,
            step_trail tables vs l.work work marks y.result a.n (l.i - 1) l.i _ e (omega arith) there is own new old i.1,
          ),
    )

pub returns : goal.returns
returns c = let l = c.loop-i in
    let z : l.i ≡ 0 = omega arith in (
      λ tables ready e.
          let i = l.invariant.2 tables ready e in
          record { costs = at l.next; exact = rw z at i.0; total = refl; trail = λ j t h. i.1 j t (omega arith) },
      l.invariant.0.1 1 (omega arith),
    )
