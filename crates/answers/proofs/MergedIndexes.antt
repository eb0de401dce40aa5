-- Merging indexes, as it is proved in crates/afresh. Assumes nothing.
use mathlib.Core.Path.{◌≡◌, refl}
use mathlib.Core.List.{[], ◌∷◌}
use Rattle.fields.specs.Identifier.{same}
use Rattle.index.specs.Order.{less, before}
use Rattle.index.specs.Index.{front, behind}
use Rattle.merging.specs.Merging.{merged}
use Rattle.afresh.proofs.Runs.{merging_two, accepted_two, merging_any, by_runs, as_one_by_one}
use Rattle.answers.specs.MergedIndexes.{of_january, MergedIndexes}

example : merged (of_january (48 ∷ []) 1 ∷ of_january (55 ∷ []) 6 ∷ of_january (55 ∷ []) 3 ∷ [])
    (of_january (49 ∷ []) 4 ∷ of_january (55 ∷ []) 5 ∷ of_january (55 ∷ []) 2 ∷ of_january (56 ∷ []) 6 ∷ [])
    ≡ of_january (48 ∷ []) 1 ∷ of_january (49 ∷ []) 4 ∷ of_january (55 ∷ []) 6 ∷ of_january (55 ∷ []) 3 ∷ of_january (55 ∷ []) 5
    ∷ of_january (55 ∷ []) 2 ∷ of_january (56 ∷ []) 6 ∷ []
unfolding merged front behind before less same
example = refl

pub merged_indexes : MergedIndexes
merged_indexes = record {
  merging_two = merging_two;
  accepted_two = accepted_two;
  merging_any = merging_any;
  by_runs = λ runs s. by_runs {runs = runs} {s = s};
  as_one_by_one = as_one_by_one;
  example = example;
}
