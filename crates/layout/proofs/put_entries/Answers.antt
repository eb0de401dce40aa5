use Prim.Native.Nat.{◌+◌, ◌*◌}
use native.Mathlib.Omega.{arith}
use lib.ListN.{get_or}
use Rattle.layout.specs.Layout.{entries_of}
use Rattle.layout.specs.InnerLeads.{entry_bytes}
use Rattle.layout.proofs.Filled.{filled_from, filled_put}
use Rattle.layout.proofs.Laws.{length_entry_bytes, entries_more}
use Rattle.layout.proofs.put_entries.Goals as goal

pub loop-k-init : goal.loop-k-init
unfolding entries_of
loop-k-init c = filled_from c.args.part.now 18 (omega arith)

pub loop-k-preserved : goal.loop-k-preserved
loop-k-preserved c = let l = c.loop-k in
    let a = c.args in
    let first = get_or a.firsts.now l.k 0 in
    let count = get_or a.counts.now l.k 0 in
    let id = get_or a.ids.now l.k 0 in
    let more = entries_more a.firsts.now a.counts.now a.ids.now l.k (omega arith) (omega arith) (omega arith) in
    let size = length_entry_bytes first count id in
    rw more (filled_put (entry_bytes first count id) 9 (18 + 9 * (l.k + 1)) l.invariant size (omega arith) c.put_entry.ensures)
