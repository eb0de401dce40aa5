-- With k structures passed the choice among them and the start is made.
use Rattle.search.specs.InnerSearch.{Picked}
use Rattle.search.proofs.Table.choose.Given as goal

abbrev pub invariant-loop-k : goal.invariant-loop-k
invariant-loop-k l = Picked l.self.numbers.now l.cur l.self.t l.start l.k l.best
