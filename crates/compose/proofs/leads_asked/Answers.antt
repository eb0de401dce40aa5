use mathlib.Core.Path.{refl}
use borrow.Author.Rules.{rules}
use borrow.Author.Tests.{tests}
use lib.ListN.{length}
use Rattle.wire.proofs.Ranges.{all_over}
use Rattle.compose.specs.Writing.{lead_asked}
use Rattle.compose.proofs.leads_asked.Goals as goal

pub returns : goal.returns
returns c = all_over _ _ _ 0 (length c.args.counts.now) (lead_asked c.args.firsts.now c.args.counts.now) refl c.all.ensures.ran (λ x q k. search (rules, tests)) (λ x q k. search (rules, tests))
