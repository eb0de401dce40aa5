use Prim.Native.Nat.{◌+◌, ◌*◌}
use native.Mathlib.Omega.{arith}
use lib.ListN.{get_or}
use Rattle.layout.specs.InnerCounts.{byte_counts}
use Rattle.layout.proofs.Filled.{filled_from, filled_number}
use Rattle.layout.proofs.Laws.{counts_more}
use Rattle.layout.proofs.put_counts.Goals as goal

pub loop-k-init : goal.loop-k-init
unfolding byte_counts
loop-k-init c = filled_from c.args.part.now 22 (omega arith)

pub loop-k-preserved : goal.loop-k-preserved
loop-k-preserved c = let l = c.loop-k in
    let ns = c.args.bytes.now in
    rw (counts_more ns l.k (omega arith)) (filled_number 2 (get_or ns l.k 0) (22 + 2 * (l.k + 1)) l.invariant (omega arith) c.put16.ensures)
