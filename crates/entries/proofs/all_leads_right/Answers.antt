use mathlib.Core.Path.{refl}
use borrow.Author.Rules.{rules}
use borrow.Author.Tests.{tests}
use Rattle.entries.specs.Section3.{lead_right}
use Rattle.wire.proofs.Ranges.{all_over}
use Rattle.entries.proofs.all_leads_right.Goals as goal

pub returns : goal.returns
returns c =
    all_over _ _ _ 0 c.args.n (lead_right c.args.s.now) refl c.all.ensures.ran (λ x q k. search (rules, tests)) (λ x q k. search (rules, tests))
