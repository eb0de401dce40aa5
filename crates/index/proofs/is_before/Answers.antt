use mathlib.Core.Path.{sym, ◌∙◌}
use native.Mathlib.Omega.{arith}
use Rattle.index.proofs.Words.{words_equal, words_differ}
use Rattle.index.proofs.is_before.Goals as goal

pub returns-then-v-w : goal.returns-then-v-w
returns-then-v-w c =
    let a = c.args in
    let v = c.word-v.ensures in
    let w = c.word-w.ensures in
    let decides = words_differ a.a.now a.b.now c.loop-i.i _ c.bytes_fit.ensures c.bytes_fit-2.ensures (omega arith) (omega arith) (λ e. c.if-v-w.true (v ∙ e ∙ sym w)) in
    rw (v, w) (sym decides ∙ c.loop-i.invariant.1)

pub loop-i-preserved : goal.loop-i-preserved
loop-i-preserved c =
    let a = c.args in
    let equal = sym c.word-v.ensures ∙ c.if-v-w.false ∙ c.word-w.ensures in
    let turn = words_equal a.a.now a.b.now c.loop-i.i _ c.bytes_fit.ensures c.bytes_fit-2.ensures (omega arith) (omega arith) equal in
    (omega arith, sym turn ∙ c.loop-i.invariant.1)
