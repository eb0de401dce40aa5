use mathlib.Core.Path.{sym, ◌∙◌}
use native.Mathlib.Omega.{arith}
use Rattle.index.proofs.Walk.{shown_at_lem, going_on, going_stop, going_end, whole_entry, whole_on, none_past}
use Rattle.index.proofs.behind.Goals as goal

pub entry_at-e-requires : goal.entry_at-e-requires
entry_at-e-requires g c = whole_entry c.args.s.now c.loop-at.at c.loop-at.invariant.whole c.loop-at-test.true

pub returns-then-not-keeps : goal.returns-then-not-keeps
returns-then-not-keeps g c =
    let s = c.args.s.now in
    let l = c.loop-at in
    let e = c.entry_at-e.result in
    let shown = shown_at_lem s l.at e c.entry_at-e.ensures (whole_entry s l.at l.invariant.whole c.loop-at-test.true) in record {
      passed = λ rule are. going_stop rule s c.args.from l.at e (l.invariant.going rule are) shown (sym (are e _ c.keeps.ensures) ∙ c.if-not-keeps.true);
      whole = l.invariant.whole;
    }

pub loop-at-smaller : goal.loop-at-smaller
loop-at-smaller g c =
    let s = c.args.s.now in
    let l = c.loop-at in
    let shown = shown_at_lem s l.at c.entry_at-e.result c.entry_at-e.ensures (whole_entry s l.at l.invariant.whole c.loop-at-test.true) in
    omega (arith, shown.size, shown.within)

pub loop-at-preserved : goal.loop-at-preserved
loop-at-preserved g c =
    let s = c.args.s.now in
    let l = c.loop-at in
    let e = c.entry_at-e.result in
    let shown = shown_at_lem s l.at e c.entry_at-e.ensures (whole_entry s l.at l.invariant.whole c.loop-at-test.true) in record {
      whole = whole_on s l.at e l.invariant.whole shown;
      going = λ rule are. going_on rule s c.args.from l.at e (l.invariant.going rule are) shown (sym (are e _ c.keeps.ensures) ∙ c.if-not-keeps.false);
    }

pub returns : goal.returns
returns g c =
    let s = c.args.s.now in
    let l = c.loop-at in record {
      passed = λ rule are. going_end rule s c.args.from l.at (l.invariant.going rule are) (none_past s l.at (omega (arith, c.loop-at-test.false)));
      whole = l.invariant.whole;
    }
