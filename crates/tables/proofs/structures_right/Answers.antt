use Prim.Native.Nat.{◌+◌, ◌*◌}
use mathlib.Core.Path.{refl, ◌∙◌}
use borrow.Author.Rules.{rules}
use borrow.Author.Tests.{tests}
use Rattle.wire.proofs.Ranges.{all_over}
use Rattle.tables.specs.Structures.{structure_at, structure_right}
use Rattle.tables.proofs.Laws.{structures_all}
use Rattle.tables.proofs.structures_right.Goals as goal

pub returns : goal.returns
returns c = let a = c.args in
    let s = a.s.now in
    all_over _ _ _ 0 a.n (λ k. structure_right a.tables (structure_at s (a.o + 9 * k))) refl c.all.ensures.ran
    (λ x q k. search (rules, tests)) (λ x q k. search (rules, tests))
    ∙ structures_all (structure_right a.tables) s a.o a.n
