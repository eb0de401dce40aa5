-- The code is the definition.
use mathlib.Core.Path.{refl}
use Rattle.wire.specs.InnerCheck.{quotient}
use Rattle.wire.proofs.quotient.Goals as goal

pub returns : goal.returns
unfolding quotient
returns c = refl
