-- By the three tests: a switch gives no value, a value's structure those from `lo` up to `hi`.
use mathlib.Core.Path.{sym, ◌∙◌}
use mathlib.Core.Logic.{inl, inr, ⊎_elim}
use native.Mathlib.Omega.{arith}
use borrow.Author.Tests.{leb-true, ltb-true, ltb-false, eqb-true}
use Rattle.wire.proofs.Laws.{unlike}
use Rattle.shortest.proofs.Forms.{form_leads, form_gives, form_dead}
use Rattle.search.proofs.serves.Goals as goal
use Rattle.search.proofs.serves.Goals.{then-f-eq0, else-f-eq0}

pub returns-then-f-v : goal.returns-then-f-v
returns-then-f-v c = λ n d right small form.
    let f = c.args.f in
    let v = c.args.v in
    let h = c.if-f-v.true in (
      λ z. form_gives n d right small f form v h.0 h.1 (ltb-true v f.hi z),
      λ z q. let e = form_dead n d right small f form v h.0 (inr (ltb-false v f.hi z)) in unlike cc,
    )

pub returns-else-f-v : goal.returns-else-f-v
returns-else-f-v c = λ n d right small form.
    let f = c.args.f in
    let v = c.args.v in
    let h = c.if-f-v.either in (
      λ z.
          elim c.if-f-eq0.branch [
            | then-f-eq0 w ↦ let l = leb-true f.lo v (sym w.t-4-is ∙ z) in
                ⊎_elim (λ o. absurd (omega (arith, l, o.1))) (λ m. absurd (m w.if-f-eq0.true)) h
            | else-f-eq0 w ↦ absurd (w.if-f-eq0.false (eqb-true f.to 0 (sym w.t-4-is ∙ z)))
          ],
      λ z q.
          ⊎_elim (λ o. let e = form_dead n d right small f form v o.0 (inl o.1) in unlike cc)
          (λ m. let e = form_leads n d right small f form v m in unlike cc) h,
    )
