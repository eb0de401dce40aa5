-- Merging two of the auditor's indexes (ours, beside 02, Q-13). a and b are the bytes of each, all of them in use; out is the output.
use Rattle.std.specs.Prelude.{ℕ, ◌+◌, Bool, cond, List, [], ◌∷◌, ◌++◌, leb, eqb, length, drop}
use Rattle.wire.specs.RuleWords.{unless}
use Rattle.index.specs.Entry.{Entry}
use Rattle.index.specs.Index.{index_bytes, entries_in, is_index, placed}
use Rattle.filing.specs.declared.Indexed.{Indexed}

-- entries with others put in among them, one after another as adding puts in one: so those of es stand before equal ones of fs
unfoldable pub merged : List Entry → List Entry → List Entry
merged es [] = es
merged es (f ∷ fs) = merged (placed f es) fs

-- 11: the output has room for both
abbrev pub room_for_both : List ℕ → List ℕ → ℕ → Bool
room_for_both a b room = leb (length a + length b) room

-- 26 where either is no index, then 11 where there is no room for both; 0 where no rule is broken
unfoldable pub merge_refusal : List ℕ → List ℕ → ℕ → ℕ
merge_refusal a b room = unless (is_index a) 26 (unless (is_index b) 26 (unless (room_for_both a b room) 11 0))

-- the answer: how many bytes of the output are in use now, and 0 with a refusal
unfoldable pub merge_answer : List ℕ → List ℕ → ℕ → Indexed
merge_answer a b room = record {
  refusal = merge_refusal a b room;
  used = cond (eqb (merge_refusal a b room) 0) (length a + length b) 0;
}

-- the output afterwards: the bytes of both indexes' entries, merged, and behind them the output as it was; a refusal leaves all of it as it was
unfoldable pub merged_into : List ℕ → List ℕ → List ℕ → List ℕ
merged_into a b out =
    cond (eqb (merge_refusal a b (length out)) 0)
    (index_bytes (merged (entries_in a) (entries_in b)) ++ drop (length a + length b) out)
    out
