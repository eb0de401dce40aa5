-- The folded word and the next one, as the law has them.
use native.Mathlib.Omega.{arith}
use Rattle.wire.proofs.WordLaws.{folded, next_word}
use Rattle.wire.proofs.next.Goals as goal

pub returns : goal.returns
unfolding folded
returns c = let e = c.quotient-q.ensures in let a = c.args in rw e (next_word a.w a.v (omega arith))
