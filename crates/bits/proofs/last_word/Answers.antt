use mathlib.Core.Path.{◌≡◌, refl, sym, ap, ◌∙◌}
use Prim.Native.Nat.{ℕ, ◌+◌, ◌-◌, ◌*◌, ◌^◌, ◌≤◌, ◌<◌}
use native.Mathlib.Nat.{mod-eq_of_lt}
use native.Mathlib.Omega.{arith}
use borrow.Author.Tests.{eqb-true}
use mathlib.Core.List.{List}
use lib.ListN.{length, take, drop, length-drop}
use Rattle.std.proofs.lemmas.List.{get_or-take}
use lib.Seq.{take_all, length-take-le, get_or-drop}
use Rattle.bits.specs.Bits.{bits_in, number_of, number_after}
use Rattle.bits.proofs.Laws.{digits_room}
use Rattle.bits.proofs.Windows.{byte_behind, bytes_small, last_bytes, last_small, last_none}
use Rattle.bits.proofs.last_word.Goals as goal
use Rattle.bits.proofs.last_word.Goals.{Start, In-loop-byte, After-from}

-- fewer than eight bytes are there
few : (c : Start) →
    let a = c.args in
    length (take (length a.s.now - a.i) (drop a.i a.s.now)) < 8
few c = let a = c.args in rw (length-take-le (length a.s.now - a.i) (drop a.i a.s.now) (simp length-drop (omega arith))) (omega arith)

pub returns-then-is_empty : goal.returns-then-is_empty
returns-then-is_empty c =
    let a = c.args in
    sym (last_none a.s.now a.i _ c.requires.0 refl (omega (arith, few (goal.at.returns-then-is_empty c).Start)) (eqb-true _ _ (sym c.is_empty.ensures ∙ c.if-is_empty.true)))

pub loop-byte-init : goal.loop-byte-init
unfolding bits_in number_after
loop-byte-init c = refl

-- the number has room for one byte more
room : (c : In-loop-byte) → c.loop-byte.w < 2 ^ 56
room c =
    let l = c.loop-byte in
    let few : l.byte-index * 8 ≤ 56 = omega (arith, few (goal.at.overflow_mul-w c).Start, c.loop-byte-test.true) in
    rw l.invariant (digits_room 2 (l.byte-index * 8) 56 (omega arith) few (bytes_small _ l.byte-index l.auto.byte-index-end))

-- a byte is one
byte : (c : After-from) → c.from.result < 256
byte c =
    let a = c.args in
    let k = c.loop-byte.byte-index in
    let there : k < length a.s.now - a.i = rw (length-take-le (length a.s.now - a.i) (drop a.i a.s.now) (simp length-drop (omega arith))) at c.loop-byte-test.true in
    rw (c.from.ensures, get_or-take (length a.s.now - a.i) (drop a.i a.s.now) k 0 there, get_or-drop a.i a.s.now k 0) (omega (arith, c.type_inv.s (a.i + k)))

pub overflow_mul-w : goal.overflow_mul-w
overflow_mul-w c = omega (arith, room c)

pub overflow_add-w : goal.overflow_add-w
overflow_add-w c = omega (arith, room (goal.at.overflow_add-w c).In-loop-byte, byte (goal.at.overflow_add-w c).After-from)

pub loop-byte-preserved : goal.loop-byte-preserved
loop-byte-preserved c =
    let l = c.loop-byte in
    let e = byte_behind _ l.byte-index c.from.result c.loop-byte-test.true c.from.ensures (byte c) in
    rw l.invariant (sym e)

pub returns : goal.returns
returns c =
    let a = c.args in
    let l = c.loop-byte in
    let bytes = take (length a.s.now - a.i) (drop a.i a.s.now) in
    let few = few (goal.at.returns c).Start in
    let all : l.w ≡ number_of (bits_in bytes) = l.invariant ∙ ap (λ (xs : List ℕ). number_of (bits_in xs)) (take_all l.byte-index bytes c.loop-byte-test.false) in
    rw all (mod-eq_of_lt (last_small a.s.now a.i bytes c.requires.0 refl (omega arith)) ∙ sym (last_bytes a.s.now a.i bytes c.requires.0 refl (omega arith)))
