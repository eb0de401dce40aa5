-- The tables are put, and stay as they are while what to try first is put behind them (`ready_same`).
use Rattle.tables.specs.Section2.{tables_in}
use Rattle.compiled.specs.InnerForm.{Compiled}
use Rattle.compiled.proofs.compile.Given as goal

abbrev pub invariant-loop-t : goal.invariant-loop-t
invariant-loop-t l = Compiled (tables_in l.s l.at) l.tab
