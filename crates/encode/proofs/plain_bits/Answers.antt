use mathlib.Core.Logic.{inl, inr, ⊎_elim}
use native.Mathlib.Omega.{arith}
use Rattle.samples.specs.Differences.{differences}
use Rattle.samples.proofs.Laws.{length_differences}
use Rattle.encode.proofs.Plain.{inside_more, plain_sized, plain_unsized}
use Rattle.encode.proofs.plain_bits.Goals as goal

pub returns-then-v-lt98304 : goal.returns-then-v-lt98304
returns-then-v-lt98304 c = let a = c.args in
    let v = c.value_at-v in
    let long = length_differences a.order a.xs.now in
    plain_unsized (differences a.order a.xs.now) c.loop-i.i v.result (omega (arith, long)) v.ensures.0
    (⊎_elim (λ l. inl l) (λ h. inr h.1) c.then-v-lt98304.either)

pub loop-i-preserved : goal.loop-i-preserved
loop-i-preserved c =
    let v = c.value_at-v in
    inside_more (differences c.args.order c.args.xs.now) c.loop-i.i v.result v.ensures.0 c.if-v-lt98304.false c.if-v-ge163840.false c.loop-i.invariant

pub returns : goal.returns
returns c = let a = c.args in
    let long = length_differences a.order a.xs.now in
    plain_sized (differences a.order a.xs.now) _ (λ k h. c.loop-i.invariant k (omega (arith, long))) (omega (arith, long))
