-- By the law.
use Rattle.search.proofs.Served.{known_none}
use Rattle.search.proofs.unknown.Goals as goal

pub returns : goal.returns
returns c = known_none
