-- Each turn leaves the numbers of the tables as they were.
use Rattle.compiled.specs.InnerForm.{SameTables}
use Rattle.compiled.proofs.put_guesses.Given as goal

abbrev pub invariant-loop-k : goal.invariant-loop-k
invariant-loop-k l = SameTables l.initial.tab l.tab
