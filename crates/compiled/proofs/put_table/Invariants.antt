-- With k structures passed the table has its count and the first k forms (`Upto`); each structure is right, so its form fits.
use Rattle.tables.specs.Structures.{structures_at}
use Rattle.compiled.proofs.Putting.{Upto}
use Rattle.compiled.proofs.put_table.Given as goal

abbrev pub invariant-loop-k : goal.invariant-loop-k
invariant-loop-k l = Upto (structures_at l.s l.o l.n) l.initial.tab l.tab l.t l.k
