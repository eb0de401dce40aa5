-- The first bytes that differ decide, or the end of one; where both end, the days do.
use Prim.Native.Nat.{min}
use mathlib.Core.Path.{◌≡◌, sym, ◌∙◌}
use native.Mathlib.Numerals.{add-one}
use native.Mathlib.Omega.{arith}
use lib.ListN.{length}
use Rattle.index.proofs.Less.{decided_turn, decided_here, decided_ended, decided_same, days_less}
use Rattle.index.proofs.rest_before.Goals as goal

pub returns-then-a-i : goal.returns-then-a-i
returns-then-a-i c =
    let a = c.args in
    sym (decided_here a.a.now a.b.now c.loop-i.i _ (omega arith) (omega arith) c.if-a-i.true) ∙ c.loop-i.invariant

pub loop-i-preserved : goal.loop-i-preserved
loop-i-preserved c =
    let a = c.args in
    let turn = decided_turn a.a.now a.b.now c.loop-i.i _ (omega arith) (omega arith) c.if-a-i.false in
    rw add-one (sym turn ∙ c.loop-i.invariant)

pub returns-then-a-b : goal.returns-then-a-b
returns-then-a-b c =
    let a = c.args in
    let all : c.loop-i.i ≡ min (length a.a.now) (length a.b.now) = omega arith in
    sym (decided_ended a.a.now a.b.now c.loop-i.i _ all c.if-a-b.true) ∙ c.loop-i.invariant

pub returns : goal.returns
returns c =
    let a = c.args in
    let all : c.loop-i.i ≡ min (length a.a.now) (length a.b.now) = omega arith in
    c.lt.ensures ∙ days_less a.date a.other ∙ sym (decided_same a.a.now a.b.now c.loop-i.i _ all c.if-a-b.false) ∙ c.loop-i.invariant
