-- An index built by runs of records (ours, beside 02, Q-13).
use Rattle.std.specs.Prelude.{ℕ, ◌≡◌, List, [], ◌∷◌, ◌++◌, length, take}
use Rattle.merging.specs.Merging.{merge_answer, merged_into}
use Rattle.afresh.specs.Afresh.{AddedAll}

-- the records of all runs, one run behind another: in their order of arrival
unfoldable pub together : List (List (List ℕ)) → List (List ℕ)
together [] = []
together (rs ∷ runs) = rs ++ together runs

-- bytes that are made of runs of records. The records of a run are added one after another to an empty index, each accepted; and what is made
-- of runs is merged with what is made of the runs that arrived next, in any grouping
pub data BuiltByRuns : List (List (List ℕ)) → List ℕ → Type 0 where
  none : BuiltByRuns [] []
  run : {lent after : List ℕ} {end : ℕ} (rs : List (List ℕ)) → AddedAll lent 0 rs after end → BuiltByRuns (rs ∷ []) (take end after)
  both : {early late : List (List (List ℕ))} {a b : List ℕ} (out : List ℕ) → BuiltByRuns early a → BuiltByRuns late b
      → (merge_answer a b (length out)).refusal ≡ 0
      → BuiltByRuns (early ++ late) (take (merge_answer a b (length out)).used (merged_into a b out))
