-- The six bytes lent as reserved are 0; around evened data that is the section (`sealed_is`).
use Rattle.layout.specs.Layout.{zero_reserved}
use Rattle.layout.proofs.Laws.{sealed_is}
use Rattle.layout.proofs.seal.Goals as goal

pub returns : goal.returns
returns c = let a = c.args in
    let e = c.seal_with.ensures in
    record { part_after = e; by_index = λ contents d n. rw e (sealed_is a.id a.version zero_reserved a.part.now contents d n) }
