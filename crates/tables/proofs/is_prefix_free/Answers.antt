use Prim.Native.Nat.{◌+◌, ◌-◌, ◌*◌}
use mathlib.Core.Path.{refl, ◌∙◌}
use borrow.Author.Rules.{rules}
use borrow.Author.Tests.{tests}
use Rattle.wire.proofs.Ranges.{all_over}
use Rattle.wire.specs.RuleWords.{every}
use Rattle.tables.specs.Structures.{structure_at, structures_at, apart}
use Rattle.tables.proofs.Laws.{free_all}
use Rattle.tables.proofs.is_prefix_free.Goals as goal

pub returns : goal.returns
returns c = let a = c.args in
    let s = a.s.now in
    all_over _ _ _ 0 a.n (λ k. every (apart (structure_at s (a.o + 9 * k))) (structures_at s (a.o + 9 * k + 9) (a.n - 1 - k))) refl c.all.ensures.ran
    (λ x q k. search (rules, tests)) (λ x q k. search (rules, tests))
    ∙ free_all s a.o a.n
