use Prim.Native.Nat.{ℕ, suc, ◌+◌, ◌-◌, ◌≤◌, ◌<◌}
use mathlib.Core.Path.{◌≡◌, sym, ap, subst, ◌∙◌}
use mathlib.Core.List.{List}
use native.Mathlib.Omega.{arith}
use borrow.Author.Rules.{rules}
use lib.ListN.{length, take, drop}
use mir.Syntax.{w16}
use mir.Val.{to_z, of_z}
use Rattle.std.specs.Prelude.{Result, Ok, cond, leb, set, get_or, pos}
use Rattle.std.proofs.lemmas.Result.{err_from_is_err_and}
use Rattle.refusals.specs.declared.Refusal.{Refusal}
use Rattle.refusals.specs.Refusals.{number_of, refusal_in}
use Rattle.bits.specs.Bits.{bits_in}
use Rattle.bits.specs.InnerRaised.{from_zero}
use Rattle.samples.specs.InnerTrace.{before, trace_of}
use Rattle.tables.specs.declared.Structure.{Structure}
use Rattle.compiled.specs.InnerForm.{CompiledOrNone}
use Rattle.reading.specs.InnerCursor.{Within}
use Rattle.reading.specs.declared.Cursor.{Cursor}
use Rattle.reading.proofs.Cursors.{length_left}
use Rattle.traces.specs.Rebuilding.{rebuild_from, rebuild}
use Rattle.traces.specs.InnerTrace.{trace_from, SampledWithin, SampledSum}
use Rattle.traces.proofs.Laws.{sum_start, sum_end, room_start, room_turn, room_fault, room_end}
use Rattle.traces.proofs.rebuild.Goals as goal
use Rattle.traces.proofs.rebuild.Goals.{After-next_sample, After-unless}

pub loop-j-init : goal.loop-j-init
loop-j-init c = let a = c.args in
    let r = c.new-c.result in
    let s = c.new-c.ensures in record {
      within = omega arith;
      last = omega arith;
      other = omega arith;
      traced = λ tables held.
          room_start tables a.order (length a.room.now) r.at r.table (bits_in a.s.now) s.0 s.1;
      summed = λ tables held.
          sum_start tables (length a.room.now) r.at r.table r.compared (bits_in a.s.now) s.0 s.1 s.2;
    }

-- a step that gave a sample
given : {n : ℕ} {r : Result (ℕ × Cursor) Refusal} {x : ℕ} {d : Cursor} → SampledWithin n r → r ≡ Ok (x, d) → (x < 65536) × Within n d
given {n} fits is = subst (SampledWithin n) is fits

-- what the stream is rebuilt to is what the step came to, behind the samples in the room
step : (c : After-next_sample) →
    let a = c.args in
    let l = c.loop-j in
    let n = length a.room.now in
    (r : Result (ℕ × Cursor) Refusal) → c.next_sample.result ≡ r → (tables : List (List Structure)) → CompiledOrNone tables a.tab.now
    → rebuild tables a.order n (bits_in a.s.now)
    ≡ before (take l.j l.room)
    (trace_from (bits_in a.s.now) (λ x. rebuild_from tables a.order (n - (l.j + 1)) (l.j + 1) x (from_zero 32768 l.last)) r)
step c r is tables held =
    let l = c.loop-j in
    let n = length c.args.room.now in
    let e : n - l.j ≡ suc (n - (l.j + 1)) = omega (arith, c) in
    rw (← is, c.next_sample.ensures.told tables (n - (l.j + 1)) held) (rw e at (l.invariant.traced tables held))

pub loop-j-preserved : goal.loop-j-preserved
loop-j-preserved c =
    let a = c.args in
    let l = c.loop-j in
    let left = length a.room.now - (l.j + 1) in
    let x = from_zero 32768 c.in_ok-x.x in
    let d = c.in_ok-x.d in
    let same : to_z w16 (of_z w16 c.lowered.result) ≡ c.lowered.result = search rules in
    rw (same, c.lowered.ensures) record {
      within = (given c.next_sample.ensures.fits c.in_ok-x.was).1;
      last = (given c.next_sample.ensures.fits c.in_ok-x.was).0;
      other = l.invariant.last;
      traced = λ tables held.
          room_turn
          (rebuild_from tables a.order left (l.j + 1) x (from_zero 32768 l.last) d.table (drop d.at (bits_in a.s.now)))
          l.room
          l.j
          x
          (omega (arith, c))
          (step (goal.at.loop-j-preserved c).After-next_sample _ c.in_ok-x.was tables held);
      summed = λ tables held.
          let e : length a.room.now - l.j ≡ suc left = omega (arith, c) in
          subst (SampledSum _ _) c.in_ok-x.was (c.next_sample.ensures.summed tables left held) ∙ rw e at (l.invariant.summed tables held);
    }

pub returns-in_err-x-clause-traced : goal.returns-in_err-x-clause-traced
returns-in_err-x-clause-traced c =
    let l = c.loop-j in
    let e = c.in_err-x.field-0.0 in
    let p = err_from_is_err_and c.from_residual.result c.from_residual.ensures.1 in
    let some : 1 ≤ number_of e = subst (SampledWithin _) c.in_err-x.was c.next_sample.ensures.fits in (
      λ tables held.
          rw (p.1, p.2)
          (room_fault (number_of e) (set l.room l.j (get_or l.room l.j (pos 0))) some ∙ sym (step (goal.at.returns-in_err-x-clause-traced c).After-next_sample _ c.in_err-x.was tables held)),
      search rules,
    )

-- the number that the bits left over give
over : (c : After-unless) →
    let a = c.args in
    refusal_in c.unless.result ≡ cond (leb (length (drop c.loop-j.c.at (bits_in a.s.now))) 15) 0 14
over c = let a = c.args in rw (length_left a.s.now c.loop-j.c.at) c.unless.ensures

-- all samples are in the room
whole : (c : After-unless) (number : ℕ) → number ≡ refusal_in c.unless.result →
    let a = c.args in
    (tables : List (List Structure)) → CompiledOrNone tables a.tab.now
    → trace_of number c.loop-j.room ≡ rebuild tables a.order (length a.room.now) (bits_in a.s.now)
whole c number e tables held =
    let a = c.args in
    let l = c.loop-j in
    room_end tables a.order (length a.room.now - l.j) l.j (from_zero 32768 l.last) (from_zero 32768 l.other) l.c.table (drop l.c.at (bits_in a.s.now))
    (omega (arith, c))
    l.room
    (omega (arith, c))
    number
    (e ∙ over c)
    ∙ sym (l.invariant.traced tables held)

pub returns-in_err-unless-clause-traced : goal.returns-in_err-unless-clause-traced
returns-in_err-unless-clause-traced c =
    let p = err_from_is_err_and c.from_residual-in_err-unless.result c.from_residual-in_err-unless.ensures.1 in (
      λ tables held.
          rw (p.1, p.2)
          (whole (goal.at.returns-in_err-unless-clause-traced c).After-unless _ (sym (ap refusal_in c.in_err-unless.was)) tables held),
      search rules,
    )

pub returns-clause-traced : goal.returns-clause-traced
returns-clause-traced c = (
  λ tables held. whole (goal.at.returns-clause-traced c).After-unless 0 (sym (ap refusal_in c.in_ok-unless.was)) tables held,
  search rules,
)

pub returns-clause-summed : goal.returns-clause-summed
returns-clause-summed c = let a = c.args in
    let l = c.loop-j in (
      λ tables held. sum_end tables (length a.room.now - l.j) l.c.table (drop l.c.at (bits_in a.s.now)) (omega arith) (l.invariant.summed tables held),
      omega arith,
    )
