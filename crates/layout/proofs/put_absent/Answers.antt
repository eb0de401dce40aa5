use Prim.Native.Nat.{◌+◌, ◌-◌, ◌*◌}
use mathlib.Core.Path.{◌≡◌}
use native.Mathlib.Omega.{arith}
use Rattle.layout.specs.Layout.{absent}
use Rattle.layout.specs.InnerPointers.{absents}
use Rattle.layout.proofs.Filled.{filled_from, filled_put}
use Rattle.layout.proofs.Laws.{length_pointer_bytes, absents_more}
use Rattle.layout.proofs.put_absent.Goals as goal

pub loop-id-init : goal.loop-id-init
unfolding absents
loop-id-init c = let a = c.args in
    let none : a.from - a.from ≡ 0 = omega arith in
    rw none (filled_from a.part.now (16 + 10 * a.from) (omega arith))

pub loop-id-preserved : goal.loop-id-preserved
loop-id-preserved c = let l = c.loop-id in
    let size = length_pointer_bytes l.id 0 0 in
    let next = filled_put (absent l.id) 10 (16 + 10 * (l.id + 1)) l.invariant size (omega arith) c.put_pointer.ensures in
    rw (absents_more c.args.from l.id (omega arith)) next
