-- The default table alone, or as many as the data say.
use mathlib.Core.Path.{refl, ◌∙◌}
use native.Mathlib.Omega.{arith}
use Rattle.wire.proofs.Tests.{kept, broken}
use Rattle.encode.proofs.Asked.{count_default, count_own}
use Rattle.encode.proofs.table_count.Goals as goal

pub returns-then-is_default : goal.returns-then-is_default
returns-then-is_default c = rw (← c.in-Some.ensures.tables) (count_default c.in-Some.s.now (kept c.is_default.ensures c.if-is_default.true), omega arith)

pub returns : goal.returns
returns c =
    let w = count_own c.in-Some.s.now (broken c.is_default.ensures c.if-is_default.false) (c.in-Some.ensures.right c.requires c.in-Some.s refl) in
    rw (← c.in-Some.ensures.tables) (c.number16.ensures.0 ∙ w.0, omega (arith, c.number16.ensures.0, w.1))
