-- Two walks find the part.
use Prim.Native.Nat.{◌-◌}
use mathlib.Core.Path.{◌≡◌, sym, ◌∙◌}
use native.Mathlib.Omega.{arith}
use borrow.Author.Rules.{rules}
use Rattle.index.specs.Index.{smaller, has, part_or_none, find_place}
use Rattle.index.proofs.Found.{walks_find, smaller_asked, in_use, part_some, part_none}
use Rattle.index.proofs.find_place.Goals as goal
use Rattle.index.proofs.find_place.Goals.{After-behind-end}

walked : (c : After-behind-end) → let a = c.args in
    find_place a.lent.now a.used a.id.now ≡ part_or_none c.behind-start.result (c.behind-end.result - c.behind-start.result)
walked c =
    let a = c.args in
    walks_find a.lent.now a.used a.id.now _ _ (in_use _ _ c.in_ok-unless.ensures c.index_right.ensures)
    (c.behind-start.ensures.passed (smaller a.id.now) (λ e b p. search (rules, smaller_asked)))
    (c.behind-end.ensures.passed (has a.id.now) (λ e b p. search rules))

pub returns-then-start-end : goal.returns-then-start-end
returns-then-start-end c =
    sym (walked (goal.at.returns-then-start-end c).After-behind-end ∙ part_some _ _ (λ e. absurd (omega (arith, c.if-start-end.true, e))))

pub returns-else-start-end : goal.returns-else-start-end
returns-else-start-end c = sym (walked (goal.at.returns-else-start-end c).After-behind-end ∙ part_none _ _ (omega (arith, c.if-start-end.false)))
