-- The check of every section behind Section 0 is asked.
use mathlib.Core.Path.{◌≡◌, refl}
use borrow.Author.Rules.{rules}
use borrow.Author.Tests.{tests}
use Rattle.wire.specs.RuleWords.{all_in}
use Rattle.record.specs.RecordRules.{section_check_right, checks_right}
use Rattle.wire.proofs.Ranges.{all_over}
use Rattle.record.proofs.checks_right.Goals as goal

pub returns-then-holds_check : goal.returns-then-holds_check
unfolding checks_right
returns-then-holds_check c =
    let all : c.all.result ≡ all_in 1 c.count_of.result (section_check_right c.args.rec.now) =
    all_over _ _ _ 1 c.count_of.result (section_check_right c.args.rec.now) refl c.all.ensures.ran
    (λ x q k. search (rules, tests)) (λ x q k. search (rules, tests)) in
    search (rules, tests)
