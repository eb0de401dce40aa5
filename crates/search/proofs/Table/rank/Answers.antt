-- A word moved up has 32 bits.
use native.Mathlib.Omega.{arith}
use Rattle.search.proofs.Laws.{rank_small}
use Rattle.search.proofs.Table.rank.Goals as goal

pub overflow_mul-result : goal.overflow_mul-result
overflow_mul-result c = let f = c.form-f in rw c.power.ensures (omega (arith, rank_small f.result f.ensures.1))
