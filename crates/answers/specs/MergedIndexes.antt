-- Merging indexes (ours, beside 02, Q-13): building by runs gives what adding one by one gives. rs and qs are records in order of arrival, and
-- `runs` is a list of such lists; a and b are bytes, all in use, out is the output, s the bytes that runs give, and `lent` an index to add to.
-- All that is lent are bytes, by its type (`bytes_fit`, crates/wire/src/lib.rt).
use Rattle.std.specs.Prelude.{ℕ, ◌+◌, ◌≤◌, ◌≡◌, true, List, [], ◌∷◌, ◌++◌, length, take}
use Rattle.wire.specs.RuleWords.{every, are_bytes}
use Rattle.index.specs.Entry.{Entry}
use Rattle.index.specs.Index.{entries_in}
use Rattle.merging.specs.Merging.{merged, merge_answer, merged_into}
use Rattle.afresh.specs.Afresh.{BuiltAfresh, StoredAny, AddedAll, Stored}
use Rattle.afresh.specs.Runs.{together, BuiltByRuns}

-- an entry of 7 January 2024, for the example
abbrev pub of_january : List ℕ → ℕ → Entry
of_january id leads = record { identifier = id; year = 2024; month = 1; day = 7; leads = leads }

pub record MergedIndexes : Type 0 where
  -- Merging the index of one list of records with that of another gives the index of the one list behind the other, built afresh; behind that
  -- the output stays as it was. It is accepted where there is room for both
  pub merging_two : (a b out : List ℕ) → (merge_answer a b (length out)).refusal ≡ 0 → (rs qs : List (List ℕ)) → BuiltAfresh rs a
      → BuiltAfresh qs b → Stored (rs ++ qs) out (merged_into a b out) (merge_answer a b (length out)).used
  pub accepted_two : (rs qs : List (List ℕ)) (a b : List ℕ) (room : ℕ) → BuiltAfresh rs a → BuiltAfresh qs b
      → length a + length b ≤ room → (merge_answer a b room).refusal ≡ 0
  -- The same of indexes of which nobody knows the records: the entries of a and then those of b, arranged
  pub merging_any : (a b out : List ℕ) → (merge_answer a b (length out)).refusal ≡ 0
      → StoredAny (entries_in a ++ entries_in b) out (merged_into a b out) (merge_answer a b (length out)).used
  -- So what is built by runs, in any grouping that keeps the order of arrival, is the index of all records, built afresh; and these are the
  -- bytes that adding the records one by one gives
  pub by_runs : (runs : List (List (List ℕ))) (s : List ℕ) → every are_bytes (together runs) ≡ true → BuiltByRuns runs s
      → BuiltAfresh (together runs) s
  pub as_one_by_one : (runs : List (List (List ℕ))) (s lent after : List ℕ) (end : ℕ) → every are_bytes (together runs) ≡ true
      → BuiltByRuns runs s → AddedAll lent 0 (together runs) after end → s ≡ take end after
  -- By computation: of equal entries a's come first, and each side's stay in their order. Leads tell them apart here, and do not count
  pub example : merged (of_january (48 ∷ []) 1 ∷ of_january (55 ∷ []) 6 ∷ of_january (55 ∷ []) 3 ∷ [])
      (of_january (49 ∷ []) 4 ∷ of_january (55 ∷ []) 5 ∷ of_january (55 ∷ []) 2 ∷ of_january (56 ∷ []) 6 ∷ [])
      ≡ of_january (48 ∷ []) 1 ∷ of_january (49 ∷ []) 4 ∷ of_january (55 ∷ []) 6 ∷ of_january (55 ∷ []) 3 ∷ of_january (55 ∷ []) 5
      ∷ of_january (55 ∷ []) 2 ∷ of_january (56 ∷ []) 6 ∷ []
