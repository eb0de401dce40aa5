use Prim.Native.Nat.{◌-◌}
use mathlib.Core.Path.{◌≡◌, sym, ap, ◌∙◌}
use lib.ListN.{length}
use Rattle.refusals.specs.Refusals.{refusal_in}
use Rattle.samples.specs.Trace.{Trace}
use Rattle.leads.specs.LeadTrace.{read_refusal}
use Rattle.leads.specs.LeadAnswers.{lead_of}
use Rattle.leads.proofs.Laws.{number_some, was_ok, work_refused, trace_read, trace_length}
use Rattle.leads.proofs.read.Goals as goal
use Rattle.leads.proofs.read.Goals.{In_ok-judge_reading}

pub returns-in_err-judge_reading-clause-cleared : goal.returns-in_err-judge_reading-clause-cleared
returns-in_err-judge_reading-clause-cleared c =
    let a = c.args in
    let found = sym (ap refusal_in c.in_err-judge_reading.was) ∙ c.judge_reading.ensures in
    work_refused a.rec.now a.place (length a.out.now) _ a.work.now found (number_some _)

-- none of 1 to 11 applies
none : (c : In_ok-judge_reading) → let a = c.args in
    read_refusal a.rec.now a.place (length a.out.now) (length a.work.now) ≡ 0
none c = sym c.judge_reading.ensures ∙ ap refusal_in c.in_ok-judge_reading.was

pub returns-clause-answer : goal.returns-clause-answer
returns-clause-answer c =
    let a = c.args in
    let k = a.place - 1 in
    let got = c.read_into.ensures.traced in
    let t = was_ok _ got.1 c.in_ok-compared.was in
    let on = trace_read a.rec.now a.place (length a.out.now) a.work.now (none (goal.at.returns-clause-answer c).In_ok-judge_reading) in
    c.lead_at.ensures got.0 (trace_length a.rec.now k got.0 t) ∙ ap (λ (u : Trace). lead_of a.rec.now k u) (t ∙ sym on)
