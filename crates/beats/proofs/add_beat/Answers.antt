use mathlib.Core.Path.{◌≡◌, sym, ◌∙◌}
use borrow.Author.Rules.{rules}
use lib.IntN.{pos}
use lib.ListN.{get_or}
use mir.Syntax.{w16}
use mir.ValLaws.{to_z-of_z}
use Rattle.beats.proofs.Turns.{reached_none, reached_all, Turn, turn_fault, turn_more, sum_there, sum_missing}
use Rattle.refusals.specs.Refusals.{refusal_in}
use Rattle.beats.proofs.add_beat.Goals as goal
use Rattle.beats.proofs.add_beat.Goals.{After-beat_by}

pub loop-i-init : goal.loop-i-init
loop-i-init c = let a = c.args in
    reached_none a.s.now a.beat.now a.first a.room.now c.qrs_count-zones.result c.qrs_count-zones.ensures

-- the turn at hand
abbrev Turned : After-beat_by → Type 0
Turned c =
    let l = c.loop-i in
    let a = c.args in
    let zones = c.qrs_count-zones.result in
    Turn a.s.now a.beat.now a.first a.room.now zones l.room l.k l.i c.zone_for-k.result c.beat_by.result

turned : (c : After-beat_by) → Turned c
turned c =
    let l = c.loop-i in
    let found = c.zone_for-k.ensures in
    record {
      reached = l.invariant;
      some = c.loop-i-test.true;
      zone = found.0;
      alike = found.1;
      added = c.beat_by.ensures;
    }

pub returns-in_err-room : goal.returns-in_err-room
returns-in_err-room c =
    let t = turned (goal.at.returns-in_err-room c).After-beat_by in
    let own = to_z-of_z w16 (get_or c.loop-i.room c.loop-i.i (pos 0)) (record { sfits = search rules }) in
    let beats = to_z-of_z w16 c.beat_by.result (record { sfits = search rules }) in
    let no = sum_missing _ c.checked_add-sum.result _ _ c.checked_add-sum.ensures (sym c.ok_or.ensures.value ∙ c.in_err-room.was) in
    let e : refusal_in c.from_residual.result ≡ 13 = search rules in
    (rw e (turn_fault t (rw (own, beats) at no)), t.reached.long)

pub loop-i-preserved : goal.loop-i-preserved
loop-i-preserved c =
    let t = turned (goal.at.loop-i-preserved c).After-beat_by in
    let own = to_z-of_z w16 (get_or c.loop-i.room c.loop-i.i (pos 0)) (record { sfits = search rules }) in
    let beats = to_z-of_z w16 c.beat_by.result (record { sfits = search rules }) in
    let there = sum_there c.checked_add-sum.result _ _ c.checked_add-sum.ensures (sym c.ok_or.ensures.value ∙ c.in_ok-room.was) in
    let kept = to_z-of_z w16 c.in_ok-room.field-0 (record { sfits = search rules }) in
    let sum = rw (own, beats) at there in
    turn_more t _ sum.0 (kept ∙ sum.1)

pub returns : goal.returns
returns c = let r = c.loop-i.invariant in (reached_all r c.loop-i-test.false, r.long)
