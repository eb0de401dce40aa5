-- With k structures passed the least of theirs is known.
use Rattle.search.specs.InnerSearch.{leap_of, LeastOf}
use Rattle.search.proofs.Table.relax.Given as goal

abbrev pub invariant-loop-k : goal.invariant-loop-k
invariant-loop-k l = LeastOf (leap_of l.self.numbers.now l.cur l.self.t) l.k l.least
