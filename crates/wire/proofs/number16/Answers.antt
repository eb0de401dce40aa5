-- A number of two bytes is, by its definition, what the two calls of `byte` give; past the end it is 0.
use mathlib.Core.Path.{sym}
use native.Mathlib.Omega.{arith}
use Rattle.wire.specs.Numbers.{number_at}
use Rattle.wire.proofs.Laws.{number_past}
use Rattle.wire.proofs.number16.Goals as goal

pub returns-then-s-i : goal.returns-then-s-i
returns-then-s-i c = (sym (number_past 2 c.args.s.now c.args.i c.if-s-i.true), omega arith)

pub returns : goal.returns
unfolding number_at
returns c = omega arith
