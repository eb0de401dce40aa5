use mathlib.Core.Path.{sym, ◌∙◌}
use native.Mathlib.Omega.{arith}
use Rattle.search.proofs.Choices.{picked_skip, picked_more}
use Rattle.search.proofs.Table.choose.Goals as goal
use Rattle.search.proofs.Table.choose.Goals.{then-leap-cur, else-leap-cur}

pub loop-k-preserved : goal.loop-k-preserved
loop-k-preserved c =
    let i = c.loop-k.invariant in
    let e = c.leap.ensures in
    elim c.if-leap-cur.branch [
      | then-leap-cur w ↦ rw w.best-is (picked_more _ _ _ _ _ _ _ (omega arith) (sym e ∙ w.if-leap-cur.true) w.smaller-best.ensures i)
      | else-leap-cur w ↦ rw w.best-is (picked_skip _ _ _ _ _ _ (λ q. w.if-leap-cur.false (e ∙ q)) i)
    ]
