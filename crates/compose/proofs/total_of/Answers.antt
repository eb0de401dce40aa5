-- The sum, each count at most 4,294,967,295.
use mathlib.Core.Path.{◌≡◌, ◌∙◌}
use native.Mathlib.Omega.{arith}
use borrow.Author.Rules.{rules}
use Rattle.std.proofs.lemmas.Iterator.{YieldsList-from_slice, YieldsList-from_map}
use Rattle.std.proofs.lemmas.Iterator.Consumers.{sum_by_from_yields_List, YieldsList-at}
use Rattle.compose.specs.Writing.{total}
use Rattle.compose.proofs.Laws.{total_sum, total_most}
use Rattle.compose.proofs.total_of.Goals as goal

pub returns : goal.returns
returns c = let counts = c.args.counts.now in
    let e : c.sum.result ≡ total counts = sum_by_from_yields_List (λ x. x) counts c.map.result c.sum.result c.sum.ensures.ran
    (YieldsList-from_map _ (λ x. x) (YieldsList-at c.map.ensures.source (YieldsList-from_slice counts c.iter.ensures.rest)) c.map.ensures.closure
    (λ x r q k. search rules)) ∙ total_sum counts in
    (e, omega (arith, e, total_most counts 4294967295 (λ k. omega (arith, c.type_inv.counts k)), c.requires))
