-- The marks of the tables before t are picked, the others are as they were (`MarkedTo`).
use Rattle.search.proofs.Choices.{MarkedTo}
use Rattle.search.proofs.mark.Given as goal

abbrev pub invariant-loop-t : goal.invariant-loop-t
invariant-loop-t l = MarkedTo l.tab l.first l.cur l.initial.marks l.marks l.n l.t
