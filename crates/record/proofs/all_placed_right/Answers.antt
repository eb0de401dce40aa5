-- Every section behind Section 0 is asked.
use mathlib.Core.Path.{◌≡◌, refl}
use borrow.Author.Rules.{rules}
use borrow.Author.Tests.{tests}
use Rattle.wire.specs.RuleWords.{all_in}
use Rattle.record.specs.RecordRules.{placed_right, all_placed_right}
use Rattle.wire.proofs.Ranges.{all_over}
use Rattle.record.proofs.all_placed_right.Goals as goal

pub returns-then-is_present : goal.returns-then-is_present
unfolding all_placed_right
returns-then-is_present c =
    let all : c.all.result ≡ all_in 1 c.count_of.result (placed_right c.args.rec.now) =
    all_over _ _ _ 1 c.count_of.result (placed_right c.args.rec.now) refl c.all.ensures.ran
    (λ x q k. search (rules, tests)) (λ x q k. search (rules, tests)) in
    search (rules, tests)
