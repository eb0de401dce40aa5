-- Word by word, two become one.
use Rattle.wire.proofs.Turns.{sixteen}
use Rattle.wire.proofs.joined.Goals as goal

pub returns : goal.returns
returns c = let e1 = c.next-w.ensures in
    let e2 = c.next-w-2.ensures in
    let e3 = c.next-w-3.ensures in
    let e4 = c.next-w-4.ensures in
    let e5 = c.next-w-5.ensures in
    let e6 = c.next-w-6.ensures in
    let e7 = c.next-w-7.ensures in
    let e8 = c.next-w-8.ensures in
    let e9 = c.next-w-9.ensures in
    let e10 = c.next-w-10.ensures in
    let e11 = c.next-w-11.ensures in
    let e12 = c.next-w-12.ensures in
    let e13 = c.next-w-13.ensures in
    let e14 = c.next-w-14.ensures in
    let e15 = c.next.ensures in
    rw (e15, e14, e13, e12, e11, e10, e9, e8, e7, e6, e5, e4, e3, e2, e1) (sixteen 0 c.args.x)
