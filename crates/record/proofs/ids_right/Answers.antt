-- Every pointer of the range is asked.
use mathlib.Core.Path.{refl}
use borrow.Author.Rules.{rules}
use borrow.Author.Tests.{tests}
use Rattle.record.specs.RecordRules.{id_right}
use Rattle.wire.proofs.Ranges.{all_over}
use Rattle.record.proofs.ids_right.Goals as goal

pub returns : goal.returns
returns c = all_over _ _ _ 0 c.args.count (id_right c.args.rec.now) refl c.all.ensures.ran
    (λ x q k. search (rules, tests)) (λ x q k. search (rules, tests))
