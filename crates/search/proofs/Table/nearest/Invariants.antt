-- With k structures passed the nearest of them is known.
use mathlib.Core.List.{List}
use Rattle.tables.specs.declared.Structure.{Structure}
use Rattle.compiled.specs.InnerForm.{Compiled}
use Rattle.search.specs.InnerSearch.{Place, Served}
use Rattle.search.proofs.Table.nearest.Given as goal

abbrev pub invariant-loop-k : goal.invariant-loop-k
invariant-loop-k l = record {
  place : Place l.self.numbers.now l.self.t l.best;
  served : (tables : List (List Structure)) → Compiled tables l.self.numbers.now → Served tables l.v l.self.t l.k l.best;
}
