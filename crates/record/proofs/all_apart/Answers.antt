-- Every section before k is asked.
use mathlib.Core.Path.{refl}
use borrow.Author.Rules.{rules}
use borrow.Author.Tests.{tests}
use Rattle.record.specs.RecordRules.{sections_apart}
use Rattle.wire.proofs.Ranges.{all_over}
use Rattle.record.proofs.all_apart.Goals as goal

pub returns : goal.returns
returns c = all_over _ _ _ 1 c.args.k (sections_apart c.args.rec.now c.args.k) refl c.all.ensures.ran
    (λ x q k. search (rules, tests)) (λ x q k. search (rules, tests))
