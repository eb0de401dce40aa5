use mathlib.Core.Path.{◌∙◌}
use native.Mathlib.Omega.{arith}
use lib.ListN.{length}
use Rattle.samples.specs.Differences.{differences}
use Rattle.samples.proofs.Laws.{length_differences}
use Rattle.encode.proofs.Plain.{plain_put, plain_start, plain_all}
use Rattle.encode.proofs.put_plain.Goals as goal

pub loop-i-init : goal.loop-i-init
loop-i-init c = plain_start (differences c.args.order c.args.xs.now) c.args.out.now

pub loop-i-preserved : goal.loop-i-preserved
loop-i-preserved c = let a = c.args in
    let vs = differences a.order a.xs.now in
    let l = c.loop-i in
    let v = c.value_at-v in
    let long = length_differences a.order a.xs.now in
    c.put16.ensures ∙ plain_put vs a.out.now l.out l.i v.result _ (omega (arith, long)) v.ensures.0 (omega arith) l.invariant

pub returns : goal.returns
returns c = let a = c.args in
    let long = length_differences a.order a.xs.now in
    plain_all (differences a.order a.xs.now) a.out.now c.loop-i.out c.loop-i.i (length a.xs.now) (omega arith) long c.loop-i.invariant
