-- The value stored is made of the samples there and before.
use mathlib.Core.Path.{◌≡◌}
use native.Mathlib.Omega.{arith}
use lib.IntN.{pos}
use lib.ListN.{get_or}
use borrow.Author.Rules.{rules}
use mir.Syntax.{w16}
use mir.Val.{to_z, of_z}
use mathlib.Core.Path.{◌∙◌}
use Rattle.bits.specs.InnerRaised.{from_zero}
use Rattle.samples.proofs.Laws.{stored_at}
use Rattle.samples.proofs.value_at.Goals as goal

pub returns : goal.returns
returns c = let a = c.args in
    let xs = a.xs.now in
    let told = c.stored_of.ensures in
    let last = c.earlier-last in
    let other = c.earlier-other in
    let x : from_zero 32768 c.raised-x.result ≡ get_or xs a.i (pos 0) =
    (let same : to_z w16 (of_z w16 (get_or xs a.i (pos 0))) ≡ get_or xs a.i (pos 0) = search rules in c.raised-x.ensures.0 ∙ same) in
    let at =
    stored_at a.order xs a.i (from_zero 32768 last.result) (from_zero 32768 other.result) (omega arith)
    last.ensures.1 other.ensures.1 in
    (rw (told.0, at, x), told.1)
