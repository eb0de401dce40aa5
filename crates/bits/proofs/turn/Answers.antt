use mathlib.Core.Path.{◌≡◌}
use Prim.Native.Nat.{suc, ◌+◌, ◌-◌}
use native.Mathlib.Omega.{arith}
use Rattle.bits.specs.Bits.{low_first, number_after}
use Rattle.bits.specs.InnerWindow.{turned}
use Rattle.bits.proofs.Laws.{digits_more}
use Rattle.bits.proofs.turn.Goals as goal

pub loop-init : goal.loop-init
unfolding turned
loop-init c = let e : c.args.p - 0 ≡ c.args.p = omega arith in (omega arith, rw e)

pub loop-preserved : goal.loop-preserved
unfolding low_first number_after
loop-preserved c = let a = c.args in
    let l = c.loop in
    let e : a.p - l.counter ≡ suc (a.p - (l.counter + 1)) = omega arith in
    (digits_more 2 l.counter l.invariant.0 (omega arith), rw e at l.invariant.1)

pub returns : goal.returns
unfolding low_first number_after
returns c = let a = c.args in
    let l = c.loop in
    let e : l.counter ≡ a.p = omega arith in
    let z : a.p - l.counter ≡ 0 = omega arith in
    (rw z at l.invariant.1, rw e at l.invariant.0)
