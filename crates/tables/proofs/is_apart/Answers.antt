use mathlib.Core.Path.{sym, ◌∙◌}
use native.Mathlib.Omega.{arith}
use Rattle.tables.specs.Structures.{apart}
use Rattle.tables.proofs.Laws.{bits_differ, bits_same, bits_none}
use Rattle.tables.proofs.is_apart.Goals as goal

pub returns-then-x-y : goal.returns-then-x-y
unfolding apart
returns-then-x-y c = let l = c.loop in
    let a = c.args in
    sym (bits_differ a.c.prefix a.d.prefix l.counter l.x l.y (omega arith) (omega arith) c.if-x-y.true) ∙ l.invariant

pub loop-preserved : goal.loop-preserved
loop-preserved c = let l = c.loop in
    let a = c.args in
    sym (bits_same a.c.prefix a.d.prefix l.counter l.x l.y (omega arith) (omega arith) c.if-x-y.false) ∙ l.invariant

pub returns : goal.returns
unfolding apart
returns c = let l = c.loop in
    let a = c.args in
    sym (bits_none a.c.prefix a.d.prefix l.counter l.x l.y (omega arith)) ∙ l.invariant
