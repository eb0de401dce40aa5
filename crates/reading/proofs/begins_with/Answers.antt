-- Fewer bits than the prefix do not begin with it; of enough bits the window's first are the turned code where the prefix begins them.
use Prim.Native.Nat.{◌-◌, ◌/◌, ◌^◌}
use mathlib.Core.Path.{sym, ap, ap₂, ◌∙◌}
use native.Mathlib.Omega.{arith}
use borrow.Author.Tests.{lt-leb}
use lib.Dec.{eqb}
use Rattle.bits.proofs.Laws.{begins_short}
use Rattle.bits.proofs.Windows.{window_begins}
use Rattle.compiled.specs.declared.Form.{Form}
use Rattle.compiled.specs.InnerForm.{form_of}
use Rattle.reading.proofs.begins_with.Goals as goal

pub returns-else-f-left : goal.returns-else-f-left
unfolding form_of
returns-else-f-left c d bs e seen = let p = ap (λ (x : Form). x.prefix) e in
    lt-leb _ _ c.if-f-left.false ∙ sym (begins_short d.prefix d.code bs (omega (arith, seen.count)))

pub returns-then-f-left : goal.returns-then-f-left
unfolding form_of
returns-then-f-left c d bs e seen = let w = c.args.w in
    let p = ap (λ (x : Form). x.prefix) e in
    ap₂ eqb (c.top.ensures ∙ ap (λ (x : Form). w / 2 ^ (64 - x.prefix)) (sym e)) (ap (λ (x : Form). x.word) (sym e))
    ∙ window_begins bs w d.prefix d.code seen.window seen.small (omega arith) (omega (arith, seen.count))
