-- The seventeen words as a list, and the law of the first of them.
use mathlib.Core.Path.{refl}
use mathlib.Core.List.{[], ◌∷◌}
use Rattle.wire.specs.InnerCheck.{fed_all, words_in}
use Rattle.wire.proofs.Turns.{add_to, moved, moved_same}
use Rattle.wire.proofs.step.Goals as goal

pub returns : goal.returns
unfolding fed_all words_in add_to moved
returns c = let a = c.args in
    let x = a.x in
    moved_same x.w0
    (x.w1 ∷ x.w2 ∷ x.w3 ∷ x.w4 ∷ x.w5 ∷ x.w6 ∷ x.w7 ∷ x.w8
    ∷ x.w9 ∷ x.w10 ∷ x.w11 ∷ x.w12 ∷ x.w13 ∷ x.w14 ∷ x.w15 ∷ a.w ∷ []) refl
