use mathlib.Core.Path.{refl}
use native.Mathlib.Numerals.{add-one}
use native.Mathlib.Omega.{arith}
use lib.Seq.{take_all}
use Rattle.wire.specs.RuleWords.{every}
use Rattle.answers.proofs.Lent.{fit_more}
use Rattle.answers.proofs.samples_fit.Goals as goal

pub loop-sample-init : goal.loop-sample-init
unfolding every
loop-sample-init c = refl

pub loop-sample-preserved : goal.loop-sample-preserved
loop-sample-preserved c = let i = c.loop-sample.sample-index in
    rw (add-one i) (fit_more c.args.samples.now i (omega arith) c.loop-sample.invariant c._sample-1.given)

pub returns : goal.returns
returns c = let s = c.args.samples.now in
    rw (take_all c.loop-sample.sample-index s (omega arith)) at c.loop-sample.invariant
