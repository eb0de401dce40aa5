-- With k structures passed the table has its count and the first k forms (`Upto`); the default table is right, so each form fits.
use Rattle.tables.specs.Default.{default_table}
use Rattle.compiled.proofs.Putting.{Upto}
use Rattle.compiled.proofs.put_default.Given as goal

abbrev pub invariant-loop-k : goal.invariant-loop-k
invariant-loop-k l = Upto default_table l.initial.tab l.tab 0 l.k
