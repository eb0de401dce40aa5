use mathlib.Core.Path.{◌≡◌, refl}
use native.Mathlib.Omega.{arith}
use borrow.Author.Rules.{rules}
use borrow.Author.Tests.{tests}
use Rattle.search.specs.InnerSearch.{form_in}
use Rattle.search.proofs.Ranges.{none_over}
use Rattle.search.proofs.Table.switches.Goals as goal

pub returns : goal.returns
returns c = λ z k h.
    let tab = c.args.self.numbers.now in
    none_over _ _ _ 0 c.count.result (λ k. (form_in tab c.args.self.t k).to ≡ 0) refl c.any.ensures.ran (λ x q h. search (rules, tests)) z k (omega arith) (omega (arith, c.count.ensures.0))
