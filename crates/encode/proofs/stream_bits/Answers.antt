-- No numbers: two bytes a value. Else the search.
use mathlib.Core.Logic.{inr}
use Rattle.samples.specs.Differences.{differences}
use Rattle.compiled.proofs.Laws.{held_ready}
use Rattle.encode.proofs.Found.{some_element, plan_sized}
use Rattle.encode.proofs.stream_bits.Goals as goal

pub returns : goal.returns
returns c = let a = c.args in
    let p = c.plan in
    let some = (some_element c.is_empty.ensures c.if-is_empty.false) in (
      λ tables held many.
          let ready = held_ready tables a.tab.now held some in
          let plan = p.ensures.0 tables ready many in
          (plan_sized ready (differences a.order a.xs.now) _ p.result p.ensures.2 plan, inr plan),
      λ e. absurd (some e),
    )
