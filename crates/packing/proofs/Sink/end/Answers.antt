-- The bytes written come first in what all bits are packed into; the bits that are left are moved up in the last byte (`end_part`).
use Prim.Native.Nat.{◌-◌, ◌*◌, ◌^◌}
use mathlib.Core.Path.{◌≡◌}
use native.Mathlib.Omega.{arith}
use borrow.Author.Rules.{rules}
use Rattle.packing.proofs.Laws.{Bytes}
use Rattle.packing.proofs.Sinks.{last_room, end_whole, end_part}
use Rattle.packing.proofs.Sink.end.Goals as goal

pub returns-then-self-eq0 : goal.returns-then-self-eq0
returns-then-self-eq0 c = let a = c.args in
    let bytes : Bytes a.out.now = λ i. omega (arith, c.type_inv.out i) in
    (λ bs h. end_whole a.out.now a.self bytes bs h (omega arith), omega arith)

pub returns : goal.returns
returns c = let a = c.args in
    let s = a.self in
    let bytes : Bytes a.out.now = search rules in
    let room = last_room s.part s.acc (omega arith) (omega arith) in
    let b : c.low_byte.result ≡ s.acc * 2 ^ (8 - s.part) = omega (arith, c.low_byte.ensures, room) in
    (λ bs h. end_part a.out.now s bytes bs h c.low_byte.result (omega arith) (omega arith) b, omega arith)
