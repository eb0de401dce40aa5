-- The six letters are compared one by one; a byte that is not there counts as 0, and is no letter.
use mathlib.Core.Path.{◌≡◌, refl, ap₂, ◌∙◌}
use mathlib.Core.Bool.{◌&&◌, and-true}
use mathlib.Core.List.{List, [], ◌∷◌}
use Prim.Native.Nat.{ℕ}
use lib.Dec.{eqb}
use lib.ListN.{get_or, take, drop}
use Rattle.std.proofs.lemmas.List.{get_or-drop}
use lib.Pointwise.{pointwise}
use Rattle.record.specs.RecordRules.{letters_right}
use Rattle.record.proofs.letters_right.Goals as goal

spelled : (m : List ℕ) → pointwise eqb (take 6 m) (83 ∷ 67 ∷ 80 ∷ 69 ∷ 67 ∷ 71 ∷ [])
    ≡ (eqb (get_or m 0 0) 83 && (eqb (get_or m 1 0) 67
    && (eqb (get_or m 2 0) 80 && (eqb (get_or m 3 0) 69 && (eqb (get_or m 4 0) 67 && eqb (get_or m 5 0) 71)))))
spelled [] = refl
spelled (a ∷ []) = refl
spelled (a ∷ b ∷ []) = refl
spelled (a ∷ b ∷ c ∷ []) = refl
spelled (a ∷ b ∷ c ∷ d ∷ []) = refl
spelled (a ∷ b ∷ c ∷ d ∷ e ∷ []) = refl
spelled (a ∷ b ∷ c ∷ d ∷ e ∷ f ∷ m) = simp and-true

pub returns : goal.returns
unfolding letters_right
returns c =
    let r = c.args.rec.now in
    c.eq.ensures ∙ ap₂ (pointwise eqb) c.part_of.ensures c.as_slice.ensures ∙ simp get_or-drop at (spelled (drop 16 r))
