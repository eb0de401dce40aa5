-- The samples seen so far fit: each does where it is read. Assumes nothing.
use mathlib.Core.Path.{◌≡◌}
use mathlib.Core.Bool.{true}
use lib.ListN.{take}
use Rattle.wire.specs.RuleWords.{every}
use Rattle.samples.specs.Trace.{fits16}
use Rattle.answers.proofs.samples_fit.Given as goal

abbrev pub invariant-loop-sample : goal.invariant-loop-sample
invariant-loop-sample l = every fits16 (take l.sample-index l.samples) ≡ true
