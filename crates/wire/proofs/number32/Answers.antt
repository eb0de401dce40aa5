-- A number of four bytes is two of two bytes each, as the two calls of `number16` give them; past the end it is 0.
use mathlib.Core.Path.{sym}
use native.Mathlib.Omega.{arith}
use Rattle.wire.proofs.Laws.{number_past, number_parts}
use Rattle.wire.proofs.number32.Goals as goal

pub returns-then-s-i : goal.returns-then-s-i
returns-then-s-i c = (sym (number_past 4 c.args.s.now c.args.i c.if-s-i.true), omega arith)

pub returns : goal.returns
returns c = let a = c.args in
    omega (arith, number_parts 2 2 a.s.now a.i)
