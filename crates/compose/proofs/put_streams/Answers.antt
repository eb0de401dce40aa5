use Prim.Native.Nat.{◌-◌}
use mathlib.Core.Path.{refl, sym, ◌∙◌}
use native.Mathlib.Omega.{arith}
use native.Mathlib.Nat.{le_trans, le_of_eq, mul-le-mul_right}
use borrow.Rule.Slice.PartMut.{mid_len}
use lib.ListN.{length, get_or}
use Rattle.encode.specs.Encoding.{tables_given}
use Rattle.compose.proofs.Sizes.{in_longest, room_back, place_back, length_lent, places_start}
use Rattle.compose.proofs.Streams.{stream_here, put_none, put_more}
use Rattle.compose.proofs.put_streams.Goals as goal

pub loop-k-init : goal.loop-k-init
loop-k-init c = let a = c.args in
    let p = c.requires in (
      places_start a.job.now.counts.now (length a.job.now.samples.now),
      rw (← p.sizes_len.0) (places_start a.sizes.now (length a.part.now)),
      put_none a.job.now.section2.now a.job.now.head.order a.job.now.counts.now a.job.now.samples.now a.part.now,
      λ z. refl,
    )

pub overflow_sub-at : goal.overflow_sub-at
overflow_sub-at c =
    let a = c.args in
    let p = c.requires in
    let l = c.loop-k in
    let t = c.loop-k-test.true in
    room_back a.job.now.counts.now l.k t l.auto.k l.at (length a.job.now.samples.now) l.invariant.0 p.sound.0.3

pub overflow_sub-from : goal.overflow_sub-from
overflow_sub-from c =
    let a = c.args in
    let p = c.requires in
    let l = c.loop-k in
    let t = c.loop-k-test.true in
    room_back a.sizes.now l.k t (le_trans l.auto.k (le_of_eq (sym p.sizes_len.0))) l.from (length a.part.now) l.invariant.1
    p.sizes_len.1

pub put_lead-requires : goal.put_lead-requires
put_lead-requires c =
    let a = c.args in
    let p = c.requires in
    let l = c.loop-k in
    let t = c.loop-k-test.true in
    let e = length_lent a.job.now.counts.now l.k t l.auto.k l.at (length a.job.now.samples.now) l.invariant.0 p.sound.0.3 a.job.now.samples.now refl in
    let m = in_longest a.job.now.counts.now (l.k - 1) in
    let size = get_or a.sizes.now (l.k - 1) 0 in
    let g = le_trans l.auto.k (le_of_eq (sym p.sizes_len.0)) in
    let r = room_back a.sizes.now l.k t g l.from (length a.part.now) l.invariant.1 p.sizes_len.1 in
    let long = mid_len (l.from - size) l.from l.part (omega (arith, l.invariant.1, l.auto.part)) in record {
      section2_value = (p.sound.0.0, p.sound.1);
      xs_len_bound = (
        rw e (le_trans m p.sound.0.1),
        rw (e, l.auto.work) (le_trans (mul-le-mul_right (length (tables_given a.job.now.section2.now)) m) p.sound.0.2),
        stream_here a.job.now.section2.now a.job.now.head.order a.job.now.counts.now a.job.now.samples.now a.sizes.now p.sizes_len.2 l.k t l.auto.k
            l.at (length a.job.now.samples.now) l.invariant.0 p.sound.0.3 _ (long ∙ omega (arith, r)),
      );
    }

pub loop-k-preserved : goal.loop-k-preserved
loop-k-preserved c =
    let a = c.args in
    let p = c.requires in
    let l = c.loop-k in
    let t = c.loop-k-test.true in
    let w = c.put_lead in
    let size = get_or a.sizes.now (l.k - 1) 0 in
    let g = le_trans l.auto.k (le_of_eq (sym p.sizes_len.0)) in
    let r = room_back a.sizes.now l.k t g l.from (length a.part.now) l.invariant.1 p.sizes_len.1 in (
      place_back a.job.now.counts.now l.k t l.auto.k l.at (length a.job.now.samples.now) l.invariant.0 p.sound.0.3,
      place_back a.sizes.now l.k t g l.from (length a.part.now) l.invariant.1 p.sizes_len.1,
      put_more a.job.now.section2.now a.job.now.head.order a.job.now.counts.now a.job.now.samples.now a.sizes.now p.sizes_len.2 l.k t l.auto.k
          l.at (length a.job.now.samples.now) l.invariant.0 p.sound.0.3 l.part _ l.from (omega (arith, l.invariant.1, l.auto.part)) r
          w.ensures.0 l.invariant.2,
      λ z. w.ensures.1 z ∙ l.invariant.3 z,
    )
