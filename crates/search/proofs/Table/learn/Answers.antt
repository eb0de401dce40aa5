-- The structure that was found for a value, or none, is known from then on.
use native.Mathlib.Omega.{arith}
use Rattle.search.proofs.Served.{known_more}
use Rattle.search.proofs.Table.learn.Goals as goal

pub returns-in-Some : goal.returns-in-Some
returns-in-Some c = let p = c.requires in
    let a = c.args in
    let k = c.nearest-k in
    let place = c.in-Some.ensures in
    rw place.1 (k.ensures, known_more p a.self.t a.v k.result (omega arith) place.0.0 place.0.1 k.ensures)
