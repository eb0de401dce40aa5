use Prim.Native.Nat.{◌-◌}
use mathlib.Core.Path.{refl, sym, ◌∙◌}
use native.Mathlib.Omega.{arith}
use lib.ListN.{length}
use native.Mathlib.Nat.{mul-le-mul_right}
use Rattle.encode.specs.Encoding.{tables_given}
use Rattle.compose.proofs.Sizes.{in_longest, room_back, place_back, length_lent, sized_none, sized_more}
use Rattle.compose.proofs.Sizes.{places_start}
use Rattle.compose.proofs.size_streams.Goals as goal

pub loop-k-init : goal.loop-k-init
loop-k-init c = let a = c.args in (
  places_start a.job.now.counts.now (length a.job.now.samples.now),
  sized_none a.job.now.section2.now a.job.now.head.order
      a.job.now.counts.now a.job.now.samples.now a.sizes.now,
  λ z. refl,
)

pub overflow_sub-at : goal.overflow_sub-at
overflow_sub-at c =
    let a = c.args in
    let p = c.requires in
    let l = c.loop-k in
    let t = c.loop-k-test.true in
    room_back a.job.now.counts.now l.k t l.auto.k l.at (length a.job.now.samples.now) l.invariant.0 p.sound.0.3

pub stream_bits-bits-requires : goal.stream_bits-bits-requires
stream_bits-bits-requires c =
    let a = c.args in
    let p = c.requires in
    let l = c.loop-k in
    let t = c.loop-k-test.true in
    let n = c.table_count-tables in
    let e = length_lent a.job.now.counts.now l.k t l.auto.k l.at (length a.job.now.samples.now) l.invariant.0 p.sound.0.3
    a.job.now.samples.now refl in
    let m = in_longest a.job.now.counts.now (l.k - 1) in (
      (tables_given a.job.now.section2.now, p.sound.1, sym n.ensures.0),
      omega (arith, e, m, p.sound.0.1),
      rw (e, n.ensures.0) (omega (arith, mul-le-mul_right (length (tables_given a.job.now.section2.now)) m, p.sound.0.2, l.auto.work)),
    )

pub loop-k-preserved : goal.loop-k-preserved
loop-k-preserved c =
    let a = c.args in
    let p = c.requires in
    let l = c.loop-k in
    let t = c.loop-k-test.true in
    let n = c.table_count-tables in
    let s = c.stream_bits-bits in (
      place_back a.job.now.counts.now l.k t l.auto.k l.at (length a.job.now.samples.now) l.invariant.0 p.sound.0.3,
      rw c.max-most.ensures (sized_more a.job.now.counts.now l.k t l.auto.k l.at (length a.job.now.samples.now) l.invariant.0 p.sound.0.3 a.job.now.section2.now
          a.job.now.head.order a.job.now.samples.now l.most s.result l.sizes (omega (arith, l.auto.sizes)) l.invariant.1
          (s.ensures.0 _ p.sound.1 (sym n.ensures.0)).0),
      λ z. s.ensures.1 z ∙ l.invariant.2 z,
    )
