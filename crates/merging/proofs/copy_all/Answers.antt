use mathlib.Core.Path.{◌∙◌}
use native.Mathlib.Omega.{arith}
use Rattle.index.proofs.Walk.{index_whole, index_ordered}
use Rattle.merging.proofs.Copied.{copied_from, copied_next, copied_end}
use Rattle.merging.proofs.copy_all.Goals as goal

pub loop-reached-init : goal.loop-reached-init
loop-reached-init c = let p = c.requires in
    copied_from _ _ _ c.bytes_fit.ensures c.bytes_fit-2.ensures p.2 (index_whole _ p.0) (index_whole _ p.1) (index_ordered _ p.1)

pub loop-reached-preserved : goal.loop-reached-preserved
loop-reached-preserved c =
    let e = c.copy_next-reached.ensures in
    copied_next _ _ _ c.bytes_fit.ensures c.bytes_fit-2.ensures c.requires.2 _ _ _ _ _ c.loop-reached.invariant e.reached e.bytes

pub returns : goal.returns
returns c =
    let end = copied_end _ _ _ c.bytes_fit.ensures c.bytes_fit-2.ensures c.requires.2 _ c.loop-reached.reached.a c.loop-reached.reached.b c.loop-reached.invariant (omega arith) in
    c.put_bytes.ensures ∙ rw c.part_of.ensures end
