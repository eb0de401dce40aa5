use mathlib.Core.Path.{sym, ◌∙◌}
use native.Mathlib.Omega.{arith}
use lib.ListN.{length}
use borrow.Author.Tests.{eq-eqb, ne_eqb}
use Rattle.wire.proofs.Tests.{kept, broken}
use Rattle.index.proofs.Walk.{Shown, shown_at_lem, none_there, none_past, judged_from, judged_on, judged_before, judged_end}
use Rattle.index.proofs.is_index.Goals as goal
use Rattle.index.proofs.is_index.Goals.{After-entry_at-e}

pub loop-last-init : goal.loop-last-init
loop-last-init c = rw c.none_at-last.ensures (judged_from _)

pub returns-then-not-is_entry : goal.returns-then-not-is_entry
returns-then-not-is_entry c = let s = c.args.s.now in
    let l = c.loop-last in
    let none = none_there s l.last.next (broken c.is_entry.ensures c.if-not-is_entry.true) in
    sym (judged_end s l.last l.invariant none ∙ ne_eqb l.last.next (length s) (λ e. absurd (omega arith)))

-- the next entry
there : (c : After-entry_at-e) → Shown c.args.s.now c.loop-last.last.next c.entry_at-e.result
there c = shown_at_lem _ _ _ c.entry_at-e.ensures (kept c.is_entry.ensures c.if-not-is_entry.false)

pub returns-then-stands_before : goal.returns-then-stands_before
returns-then-stands_before c = sym (judged_before _ _ _ c.loop-last.invariant (there (goal.at.returns-then-stands_before c).After-entry_at-e) (sym c.stands_before.ensures ∙ c.if-stands_before.true))

pub loop-last-smaller : goal.loop-last-smaller
loop-last-smaller c = let w = there (goal.at.loop-last-smaller c).After-entry_at-e in omega (arith, w.size, w.within)

pub loop-last-preserved : goal.loop-last-preserved
loop-last-preserved c = judged_on _ _ _ c.loop-last.invariant (there (goal.at.loop-last-preserved c).After-entry_at-e) (sym c.stands_before.ensures ∙ c.if-stands_before.false)

pub returns : goal.returns
returns c = let s = c.args.s.now in
    let l = c.loop-last in
    sym (judged_end s l.last l.invariant (none_past s l.last.next (omega arith)) ∙ eq-eqb l.last.next (length s) (omega (arith, l.invariant.within)))
