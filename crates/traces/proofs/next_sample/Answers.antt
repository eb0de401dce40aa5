-- The value that was read is that of the rule, and so is its sample, which is tested on both sides; nothing read is a refusal.
use Prim.Native.Nat.{ℕ}
use mathlib.Core.Path.{◌≡◌, sym, ap, subst, ◌∙◌}
use mathlib.Core.List.{List}
use mathlib.Core.Logic.{inl, inr}
use native.Mathlib.Omega.{arith}
use lib.ListN.{drop}
use Rattle.std.specs.Prelude.{Option, Some, None, Err}
use Rattle.std.specs.Option.{ok_or}
use Rattle.std.specs.Result.{result_ok}
use Rattle.std.proofs.lemmas.Result.{err_from_is_err_and}
use Rattle.refusals.specs.declared.Refusal.TheVariants.{NoValue}
use Rattle.bits.specs.Bits.{bits_in}
use Rattle.bits.specs.InnerRaised.{from_zero}
use Rattle.tables.specs.declared.Structure.{Structure}
use Rattle.compiled.specs.InnerForm.{CompiledOrNone}
use Rattle.reading.specs.Reading.{gave, read_next}
use Rattle.reading.specs.InnerCursor.{told, Summed}
use Rattle.reading.specs.declared.Cursor.{Cursor}
use Rattle.reading.proofs.Streams.{compared_more}
use Rattle.traces.proofs.Laws.{from_sample, from_outside, from_stuck}
use Rattle.traces.proofs.next_sample.Goals as goal
use Rattle.traces.proofs.next_sample.Goals.{After-from_residual, In_ok-v}

-- a value was read
some : (c : In_ok-v) → c.value.result ≡ Some (c.in_ok-v.v, c.in_ok-v.d)
some c = c.ok_or.ensures.ok_part ∙ ap result_ok c.in_ok-v.was

-- it is that of the rule
read : (c : In_ok-v) →
    let a = c.args in
    let d = c.in_ok-v.d in
    (tables : List (List Structure)) → CompiledOrNone tables a.tab.now
    → gave (from_zero 131072 c.in_ok-v.v) d.table (drop d.at (bits_in a.s.now))
    ≡ read_next tables a.c.table (drop a.c.at (bits_in a.s.now))
read c tables held = sym (ap (told (bits_in c.args.s.now)) (some c)) ∙ c.value.ensures.told tables held

-- no value was read
none : (c : After-from_residual) → (c.value.result ≡ None) × (c.from_residual.result ≡ Err NoValue)
none c =
    let e : c.value.result ≡ None = c.ok_or.ensures.ok_part ∙ ap result_ok c.in_err-v.was in
    let own : Err c.in_err-v.field-0.0 ≡ Err NoValue =
    sym c.in_err-v.was ∙ c.ok_or.ensures.value ∙ ap (λ (o : Option (ℕ × Cursor)). ok_or o NoValue) e in
    let p = err_from_is_err_and c.from_residual.result c.from_residual.ensures.1 in
    (e, p.1 ∙ ap Err p.2 ∙ own)

pub returns-in_err-v-clause-told : goal.returns-in_err-v-clause-told
returns-in_err-v-clause-told c tables left held =
    let a = c.args in
    let bits = bits_in a.s.now in
    rw (none c).1
    (from_stuck tables a.order left a.place (from_zero 32768 a.last) (from_zero 32768 a.other) a.c.table (drop a.c.at bits)
    (sym (ap (told bits) (none c).0) ∙ c.value.ensures.told tables held))

pub returns-then-y-lt196608-clause-told : goal.returns-then-y-lt196608-clause-told
returns-then-y-lt196608-clause-told c tables left held =
    let a = c.args in
    from_outside tables a.order left a.place (from_zero 32768 a.last) (from_zero 32768 a.other) a.c.table
    (drop a.c.at (bits_in a.s.now))
    (read (goal.at.returns-then-y-lt196608-clause-told c).In_ok-v tables held)
    c.sample_of-y.result
    c.sample_of-y.ensures.0
    (elim c.then-y-lt196608.either [ inl h ↦ inl h | inr h ↦ inr h.1 ])

pub returns-clause-told : goal.returns-clause-told
returns-clause-told c tables left held =
    let a = c.args in
    from_sample tables a.order left a.place (from_zero 32768 a.last) (from_zero 32768 a.other) a.c.table
    (drop a.c.at (bits_in a.s.now))
    (read (goal.at.returns-clause-told c).In_ok-v tables held)
    c.sample_of-y.result
    c.sample_of-y.ensures.0
    c.if-y-lt196608.false
    c.if-y-ge262144.false

pub returns-clause-summed : goal.returns-clause-summed
returns-clause-summed c tables left held =
    let a = c.args in
    let r = (goal.at.returns-clause-summed c).In_ok-v in
    let more = compared_more tables left a.c.table (drop a.c.at (bits_in a.s.now)) (sym (read r tables held)) in
    omega (arith, more, subst (Summed _) (some r) (c.value.ensures.summed tables held))
