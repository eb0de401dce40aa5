use Rattle.search.proofs.Settling.{least_min}
use Rattle.search.proofs.Table.relax.Goals as goal

pub loop-k-preserved : goal.loop-k-preserved
loop-k-preserved c = least_min _ _ _ _ _ c.leap.ensures c.min-least.ensures c.loop-k.invariant
