-- All of the work space is cleared where there are tables.
use Prim.Native.Nat.{ℕ}
use mathlib.Core.Path.{sym, ap, ◌∙◌}
use borrow.Author.Rules.{rules}
use borrow.Author.Tests.{eqb-true, eqb-false}
use lib.ListN.{length, replicate}
use Rattle.encode.specs.InnerEncode.{cleared_if}
use Rattle.encode.proofs.Asked.{cleared_some, cleared_after}
use Rattle.compose.proofs.write_by.Goals as goal

pub returns-then-not-is_empty : goal.returns-then-not-is_empty
returns-then-not-is_empty c =
    let a = c.args in
    let h = c.hold-tab in
    let w = c.write_found-answer in (
      w.ensures.0,
      c.fill.ensures.after (search rules) ∙ ap (λ (n : ℕ). replicate n 0) w.auto.work
          ∙ cleared_some a.work.now (length h.result.now) (eqb-false (length h.result.now) 0 (sym c.is_empty.ensures ∙ c.if-not-is_empty.true))
          ∙ cleared_after a.job.now.section2.now a.work.now (length h.result.now) h.ensures.count,
    )

pub returns-else-not-is_empty : goal.returns-else-not-is_empty
returns-else-not-is_empty c =
    let a = c.args in
    let h = c.hold-tab in
    let w = c.write_found-answer in
    let none = eqb-true (length h.result.now) 0 (sym c.is_empty.ensures ∙ c.if-not-is_empty.false) in (
      w.ensures.0,
      w.ensures.1 none ∙ ap (λ (n : ℕ). cleared_if n a.work.now) (sym none)
          ∙ cleared_after a.job.now.section2.now a.work.now (length h.result.now) h.ensures.count,
    )
