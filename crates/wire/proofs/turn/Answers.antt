-- The sixteen steps, from the last to the first.
use Rattle.wire.specs.InnerCheck.{fed_all, words_in}
use Rattle.wire.proofs.Turns.{sixteen}
use Rattle.wire.proofs.turn.Goals as goal

pub returns : goal.returns
returns c = let a = c.args in
    let e1 = c.step-x.ensures in
    let e2 = c.step-x-2.ensures in
    let e3 = c.step-x-3.ensures in
    let e4 = c.step-x-4.ensures in
    let e5 = c.step-x-5.ensures in
    let e6 = c.step-x-6.ensures in
    let e7 = c.step-x-7.ensures in
    let e8 = c.step-x-8.ensures in
    let e9 = c.step-x-9.ensures in
    let e10 = c.step-x-10.ensures in
    let e11 = c.step-x-11.ensures in
    let e12 = c.step-x-12.ensures in
    let e13 = c.step-x-13.ensures in
    let e14 = c.step-x-14.ensures in
    let e15 = c.step-x-15.ensures in
    let e16 = c.step.ensures in
    rw (e16, e15, e14, e13, e12, e11, e10, e9, e8, e7, e6, e5, e4, e3, e2, e1) (sixteen (fed_all 0 (words_in a.x)) a.y)
