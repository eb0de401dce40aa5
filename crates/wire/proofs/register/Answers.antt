-- The quotients and the remainder, as the law has them.
use native.Mathlib.Omega.{arith}
use Rattle.wire.proofs.WordLaws.{remainder, remainder_word}
use Rattle.wire.proofs.register.Goals as goal

pub returns : goal.returns
unfolding remainder
returns c = let e = c.quotient-p.ensures in rw e (remainder_word c.args.w (omega arith))
