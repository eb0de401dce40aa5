use Prim.Native.Nat.{◌≤◌}
use native.Mathlib.Omega.{arith}
use Rattle.search.proofs.Laws.{count_most, small_forms}
use Rattle.search.proofs.has_switch.Goals as goal

pub invariant_of-table : goal.invariant_of-table
invariant_of-table c =
    let r = c.requires in
    let h : (1 ≤ c.loop-t.t) × (c.loop-t.t ≤ 8) = omega (arith, r.1.most, r.2) in
    record { room = r.1.room; one_of_eight = h; few = count_most r.1 c.loop-t.t h; small = small_forms r.1 c.loop-t.t h }
