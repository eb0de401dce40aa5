-- The word is the number of the eight bytes' bits, and goes into the register as these bytes do (`eight_bytes`).
use native.Mathlib.Omega.{arith}
use Rattle.wire.proofs.WordLaws.{eight_bytes}
use Rattle.wire.proofs.word.Goals as goal

pub returns : goal.returns
returns c = let a = c.args in
    λ k. rw c.word.ensures (eight_bytes k a.s.now a.i (λ j. omega (arith, c.type_inv.s j)) c.requires)
