-- A form that was found is that of the structure that is matched: a value's is the answer, and a switch's is followed, which
-- carries on as the rule does.
use Prim.Native.Nat.{ℕ, ◌+◌, ◌-◌, ◌*◌, ◌<◌}
use mathlib.Core.Path.{◌≡◌, sym, ap, subst, ◌∙◌}
use mathlib.Core.List.{List}
use native.Mathlib.Nat.{pos_of_ne-zero}
use native.Mathlib.Omega.{arith}
use lib.ListN.{length, drop}
use Rattle.bits.specs.Bits.{bits_in}
use Rattle.tables.specs.declared.Structure.{Structure}
use Rattle.compiled.specs.InnerForm.{Compiled}
use Rattle.reading.specs.Reading.{read_coded}
use Rattle.reading.specs.Compared.{compared_coded}
use Rattle.reading.specs.InnerCursor.{found_in, told_of, Summed, SummedOf, Within, OnwardOf}
use Rattle.reading.proofs.Laws.{read_none}
use Rattle.reading.proofs.Cursors.{length_left, seen_left, found_none, FoundForm, found_form, read_form, read_on, onward_from}
use Rattle.reading.proofs.Cursor.coded.Goals as goal
use Rattle.reading.proofs.Cursor.coded.Goals.{After-follow, In_ok-first, In-Continue}

-- the form that was found is that of the structure that is matched
found : (c : In_ok-first) →
    let a = c.args in
    (tables : List (List Structure)) → Compiled tables a.tab.now
    → FoundForm tables a.self.table (drop a.self.at (bits_in a.s.now)) c.in_ok-first.first c.in_ok-first.place
found c tables ready =
    let a = c.args in
    let bs = drop a.self.at (bits_in a.s.now) in
    let find = c.find in
    let sees = seen_left a.s.now a.self.at c.window-w.result c.window-w.ensures in
    found_form ready a.self.table (omega arith) (omega arith) bs find.result c.in_ok-first.first c.in_ok-first.place c.in_ok-first.was
    (find.ensures.found tables bs ready sees)
    (find.ensures.placed tables bs ready sees)

pub value_of-requires : goal.value_of-requires
value_of-requires c =
    let d = found (goal.at.value_of-requires c).In_ok-first c.requires.0.0 c.requires.0.1 in (
      (d.structure, d.form, d.right, c.if-first-eq0.true),
      omega (arith, d.long, length_left c.args.s.now c.args.self.at),
      omega arith,
      d.few,
      omega arith,
    )

pub returns-then-first-eq0 : goal.returns-then-first-eq0
returns-then-first-eq0 c =
    let a = c.args in
    let all : a.self.at + (length a.s.now * 8 - a.self.at) ≡ length a.s.now * 8 = omega arith in record {
      told = λ tables ready.
          let d = found (goal.at.returns-then-first-eq0 c).In_ok-first tables ready in
          c.value_of.ensures.told d.structure (bits_in a.s.now) d.form d.right d.small
          (seen_left a.s.now a.self.at c.window-w.result c.window-w.ensures)
          ∙ sym (read_form ready.right d c.if-first-eq0.true).0;
      onward = rw all at c.value_of.ensures.onward;
      summed = λ tables ready.
          let d = found (goal.at.returns-then-first-eq0 c).In_ok-first tables ready in
          rw (read_form ready.right d c.if-first-eq0.true).1 c.value_of.ensures.summed;
    }

-- a switch was matched, by which reading carries on
pub follow-requires : goal.follow-requires
follow-requires c =
    let d = found (goal.at.follow-requires c).In_ok-first c.requires.0.0 c.requires.0.1 in
    let n = length_left c.args.s.now c.args.self.at in
    let on = pos_of_ne-zero c.if-first-eq0.false in
    (c.requires, omega (arith, d.fine.some, d.long, d.fine.to), d.few)

-- what following it told is what the rule says at the cursor, and so is the sum
followed : (c : After-follow) →
    let a = c.args in
    let bits = bits_in a.s.now in
    (tables : List (List Structure)) → Compiled tables a.tab.now
    → FoundForm tables a.self.table (drop a.self.at bits) c.in_ok-first.first c.in_ok-first.place
    → (told_of tables bits c.follow.result ≡ read_coded tables a.self.table (drop a.self.at bits))
    × SummedOf tables bits (a.self.compared + compared_coded tables a.self.table (drop a.self.at bits)) c.follow.result
followed c tables ready d =
    let a = c.args in
    let on = read_on ready.right a.self.at (bits_in a.s.now) d c.if-first-eq0.false in (
      rw on.0 (c.follow.ensures.told tables ready),
      subst (λ (n : ℕ). SummedOf tables (bits_in a.s.now) n c.follow.result) (omega (arith, on.1)) (c.follow.ensures.summed tables ready),
    )

-- where the depth was used up, the cursor is further on
further : (c : In-Continue) →
    let a = c.args in
    let d = c.in-Continue.d in
    (a.self.at < d.at) × Within (length a.s.now * 8) d
further c =
    let a = c.args in
    subst (OnwardOf a.self.at (length a.s.now * 8)) c.in-Continue.is c.follow.ensures.onward

pub returns-in-Break : goal.returns-in-Break
returns-in-Break c =
    let a = c.args in
    let is = c.in-Break.is in
    let found = found (goal.at.returns-in-Break c).In_ok-first in
    let followed = followed (goal.at.returns-in-Break c).After-follow in record {
      told = λ tables ready.
          sym (ap (told_of tables (bits_in a.s.now)) is) ∙ (followed tables ready (found tables ready)).0;
      onward = subst (OnwardOf a.self.at (length a.s.now * 8)) is c.follow.ensures.onward;
      summed = λ tables ready.
          subst (SummedOf tables (bits_in a.s.now) _) is (followed tables ready (found tables ready)).1;
    }

pub returns-in-Continue : goal.returns-in-Continue
returns-in-Continue c =
    let a = c.args in
    let is = c.in-Continue.is in
    let found = found (goal.at.returns-in-Continue c).In_ok-first in
    let followed = followed (goal.at.returns-in-Continue c).After-follow in
    let on = (further (goal.at.returns-in-Continue c).In-Continue).0 in record {
      told = λ tables ready.
          c.by_bursts.ensures.told tables ready
          ∙ sym (ap (told_of tables (bits_in a.s.now)) is)
          ∙ (followed tables ready (found tables ready)).0;
      onward = onward_from a.self.at c.in-Continue.d.at (length a.s.now * 8) (omega arith) c.by_bursts.result c.by_bursts.ensures.onward;
      summed = λ tables ready.
          let sum = subst (SummedOf tables (bits_in a.s.now) _) is (followed tables ready (found tables ready)).1 in
          subst (λ (n : ℕ). Summed n c.by_bursts.result) sum (c.by_bursts.ensures.summed tables ready);
    }

pub returns-in_err-first-clause-told : goal.returns-in_err-first-clause-told
returns-in_err-first-clause-told c = λ tables ready.
    let a = c.args in
    let bs = drop a.self.at (bits_in a.s.now) in
    let looked = c.find.ensures.found tables bs ready (seen_left a.s.now a.self.at c.window-w.result c.window-w.ensures) in
    let none = found_none tables a.self.table bs (omega arith) (sym (ap found_in c.in_err-first.was) ∙ looked) in
    rw c.from_residual.ensures (sym (read_none (length tables) tables ready.right a.self.table bs none))
