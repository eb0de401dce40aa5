-- A form that was found is that of the structure that is matched: a value's ends the step, and a switch's is followed, which carries on
-- as the rule does.
use Rattle.std.proofs.Common.{ℕ, sym, ap, subst, ◌∙◌, List, length, drop, arith}
use native.Mathlib.Nat.{pos_of_ne-zero}
use Rattle.bits.specs.Bits.{bits_in}
use Rattle.tables.specs.declared.Structure.{Structure}
use Rattle.compiled.specs.InnerForm.{Compiled}
use Rattle.reading.specs.InnerCursor.{found_in, SummedOf}
use Rattle.reading.proofs.Laws.{read_none}
use Rattle.reading.proofs.Cursors.{length_left, seen_left, found_none, FoundForm, found_form, read_form, read_on}
use Rattle.reading.proofs.Cursor.+burst_follow.Goals as goal
use Rattle.reading.proofs.Cursor.+burst_follow.Goals.{burst-In-Some}

-- the form that was found is that of the structure that is matched
found : (t : ℕ) (c : burst-In-Some t) →
    let a = c.args in
    (tables : List (List Structure)) → Compiled tables a.tab.now
    → FoundForm tables a.self.table (drop a.self.at (bits_in a.s.now)) c.in-Some.f c.in-Some.place
found t c tables ready =
    let a = c.args in
    let bs = drop a.self.at (bits_in a.s.now) in
    let sees = seen_left a.s.now a.self.at c.window-w.result c.window-w.ensures in
    found_form ready a.self.table (omega arith) (omega arith) bs c.find.result c.in-Some.f c.in-Some.place c.in-Some.is
    (c.find.ensures.found tables bs ready sees)
    (c.find.ensures.placed tables bs ready sees)

pub burst-value_of-requires : goal.burst-value_of-requires
burst-value_of-requires t c =
    let d = found t (goal.at.burst-value_of-requires t c).In-Some c.requires.0.0 c.requires.0.1 in (
      (d.structure, d.form, d.right, c.if-f-eq0.true),
      omega (arith, d.long, length_left c.args.s.now c.args.self.at),
      omega arith,
      d.few,
      omega arith,
    )

pub burst-returns-then-f-eq0-clause-told : goal.burst-returns-then-f-eq0-clause-told
burst-returns-then-f-eq0-clause-told t c = λ tables ready.
    let a = c.args in
    let d = found t (goal.at.burst-returns-then-f-eq0-clause-told t c).In-Some tables ready in
    c.value_of.ensures.told d.structure (bits_in a.s.now) d.form d.right d.small
    (seen_left a.s.now a.self.at c.window-w.result c.window-w.ensures)
    ∙ sym (read_form ready.right d c.if-f-eq0.true).0

pub burst-returns-then-f-eq0-clause-summed : goal.burst-returns-then-f-eq0-clause-summed
burst-returns-then-f-eq0-clause-summed t c = λ tables ready.
    let d = found t (goal.at.burst-returns-then-f-eq0-clause-summed t c).In-Some tables ready in
    rw (read_form ready.right d c.if-f-eq0.true).1 c.value_of.ensures.summed

pub burst-follow-requires : goal.burst-follow-requires
burst-follow-requires t c =
    let d = found t (goal.at.burst-follow-requires t c).In-Some c.requires.0.0 c.requires.0.1 in
    let n = length_left c.args.s.now c.args.self.at in
    let on = pos_of_ne-zero c.if-f-eq0.false in
    (omega arith, (c.requires, omega (arith, d.fine.some, d.long, d.fine.to), d.few))

pub burst-returns-clause-told : goal.burst-returns-clause-told
burst-returns-clause-told t c = λ tables ready.
    let a = c.args in
    let d = found t (goal.at.burst-returns-clause-told t c).In-Some tables ready in
    rw (read_on ready.right a.self.at (bits_in a.s.now) d c.if-f-eq0.false).0 (c.follow.ensures.told tables ready)

pub burst-returns-clause-summed : goal.burst-returns-clause-summed
burst-returns-clause-summed t c = λ tables ready.
    let a = c.args in
    let d = found t (goal.at.burst-returns-clause-summed t c).In-Some tables ready in
    let on = (read_on ready.right a.self.at (bits_in a.s.now) d c.if-f-eq0.false).1 in
    subst (λ (n : ℕ). SummedOf tables (bits_in a.s.now) n c.follow.result) (omega (arith, on)) (c.follow.ensures.summed tables ready)

pub burst-returns-in_default-clause-told : goal.burst-returns-in_default-clause-told
burst-returns-in_default-clause-told t c = λ tables ready.
    let a = c.args in
    let bs = drop a.self.at (bits_in a.s.now) in
    let sees = seen_left a.s.now a.self.at c.window-w.result c.window-w.ensures in
    let none = found_none tables a.self.table bs (omega arith)
    (sym (ap found_in c.in_default.is) ∙ c.find.ensures.found tables bs ready sees) in
    sym (read_none (length tables) tables ready.right a.self.table bs none)
