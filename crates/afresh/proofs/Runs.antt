-- Merging two indexes gives that of the records of both, and so building by runs gives what adding one by one gives. Assumes nothing.
use Prim.Native.Nat.{ℕ, ◌+◌, ◌≤◌}
use mathlib.Core.Path.{◌≡◌, refl, ◌∙◌}
use mathlib.Core.Bool.{true}
use mathlib.Core.List.{List, [], ◌∷◌, ◌++◌, map-append, append_assoc, append-nil}
use native.Mathlib.Omega.{arith}
use lib.ListN.{length, take}
use borrow.Author.Tests.{le-leb}
use Rattle.wire.specs.RuleWords.{every, are_bytes}
use Rattle.wire.proofs.Every.{every_split, every_join}
use Rattle.index.specs.Entry.{Entry, year_fits, entry_right}
use Rattle.index.specs.Index.{index_bytes, bytes_in, entries_in, index_right, placed}
use Rattle.index.proofs.Walk.{index_whole, index_ordered}
use Rattle.index.proofs.Bytes.{index_length, entries_back, entries_right, years_fit}
use Rattle.arranged.proofs.Arranging.{in_order_lem, rule_kept}
use Rattle.merging.specs.Merging.{merged, merge_refusal, merge_answer, merged_into}
use Rattle.merging.proofs.Merged.{all_kept_lem, merged_arranged}
use Rattle.afresh.specs.Afresh.{filable, BuiltAfresh, StoredAny, AddedAll, Stored}
use Rattle.afresh.specs.Runs.{together, BuiltByRuns, none, run, both}
use Rattle.afresh.proofs.Afresh.{index_of, read_back, built_index, one_index, built_none, placed_size, Begun, begun_with, added_all}

-- entries with others merged into them have the bytes of both
merged_size : (es fs : List Entry) → bytes_in (merged es fs) ≡ bytes_in es + bytes_in fs
unfolding merged bytes_in
merged_size es [] = omega arith
merged_size es (f ∷ fs) = merged_size (placed f es) fs ∙ rw (placed_size f es) (omega arith)

-- ---- merging two indexes

module _ (a b out : List ℕ) (ok : (merge_answer a b (length out)).refusal ≡ 0) where
  -- how many bytes are in use then
  used_then : (merge_answer a b (length out)).used ≡ length a + length b
  unfolding merge_answer
  used_then = rw ok

  -- the output begins with the bytes of the merged entries
  merged_begun : Begun (index_bytes (merged (entries_in a) (entries_in b))) out (merged_into a b out) (length a + length b)
  unfolding merge_answer merged_into
  merged_begun =
      let k = all_kept_lem a b (length out) ok in
      let es = merged (entries_in a) (entries_in b) in
      let long : length (index_bytes es) ≡ length a + length b =
      index_length es ∙ merged_size (entries_in a) (entries_in b) ∙ omega (arith, index_whole a k.0, index_whole b k.1) in
      begun_with (index_bytes es) out (merged_into a b out) (length a + length b) long k.2 (rw ok)

  -- which is not longer than it was
  merged_fits : length a + length b ≤ length (merged_into a b out)
  unfolding merge_answer
  merged_fits = omega (arith, (all_kept_lem a b (length out) ok).2, merged_begun.size)

  -- of the indexes of two lists of records it has that of the one list behind the other
  pub merging_two : (rs qs : List (List ℕ)) → BuiltAfresh rs a → BuiltAfresh qs b
      → Stored (rs ++ qs) out (merged_into a b out) (merge_answer a b (length out)).used
  merging_two rs qs p q =
      let w = merged_begun in
      let now : BuiltAfresh (rs ++ qs) (index_bytes (merged (entries_in a) (entries_in b))) =
      record {
        filed = every_join filable rs qs p.filed q.filed;
        entries = merged (entries_in a) (entries_in b);
        arranged = rw map-append (merged_arranged _ _ _ _ (read_back rs a p) (read_back qs b q));
        bytes = refl;
      } in
      rw used_then (record { index = rw w.first now; fits = merged_fits; rest = w.rest; size = w.size })

  -- and of any two that of the entries of both
  pub merging_any : StoredAny (entries_in a ++ entries_in b) out (merged_into a b out) (merge_answer a b (length out)).used
  unfolding merge_answer index_right
  merging_any =
      let k = all_kept_lem a b (length out) ok in
      let w = merged_begun in
      let arrived = entries_in a ++ entries_in b in
      let es = merged (entries_in a) (entries_in b) in
      let arranged = merged_arranged _ _ _ _ (in_order_lem (entries_in a) (index_ordered a k.0)) (in_order_lem (entries_in b) (index_ordered b k.1)) in
      let right = rule_kept entry_right arrived es arranged (every_join entry_right (entries_in a) (entries_in b) (entries_right a) (entries_right b)) in
      let years = rule_kept year_fits arrived es arranged (every_join year_fits (entries_in a) (entries_in b) (years_fit a) (years_fit b)) in
      rw used_then (record {
        right = rw (w.first, le-leb (length a + length b) (length (merged_into a b out)) merged_fits) (index_of es right years arranged.ordered);
        arranged = rw (w.first, entries_back es right years) arranged;
        rest = w.rest;
        size = w.size;
      })

-- two indexes that are built afresh are accepted where there is room for both
pub accepted_two : (rs qs : List (List ℕ)) (a b : List ℕ) (room : ℕ) → BuiltAfresh rs a → BuiltAfresh qs b → length a + length b ≤ room
    → (merge_answer a b room).refusal ≡ 0
unfolding merge_answer merge_refusal
accepted_two rs qs a b room p q h = rw (built_index rs a p, built_index qs b q, le-leb (length a + length b) room h)

-- ---- building by runs

-- the records of runs, and of those behind them
together_append : (early late : List (List (List ℕ))) → together (early ++ late) ≡ together early ++ together late
unfolding together
together_append [] late = refl
together_append (rs ∷ early) late = rw (together_append early late, append_assoc)

-- what is made of runs is the index of all their records, built afresh
pub by_runs : {runs : List (List (List ℕ))} {s : List ℕ} → every are_bytes (together runs) ≡ true → BuiltByRuns runs s
    → BuiltAfresh (together runs) s
unfolding together
by_runs bs none = built_none
by_runs bs (run {lent = lent} {after = after} {end = end} rs all) =
    rw (append-nil rs) (added_all lent after end rs (rw (append-nil rs) at bs) all).index
by_runs bs (both {early = early} {late = late} {a = a} {b = b} out p q ok) =
    let s = every_split are_bytes (together early) (together late) (rw (together_append early late) at bs) in
    rw (together_append early late)
    (merging_two a b out ok (together early) (together late) (by_runs s.0 p) (by_runs s.1 q)).index

-- so it has the bytes that adding one by one gives
pub as_one_by_one : (runs : List (List (List ℕ))) (s lent after : List ℕ) (end : ℕ) → every are_bytes (together runs) ≡ true
    → BuiltByRuns runs s → AddedAll lent 0 (together runs) after end → s ≡ take end after
as_one_by_one runs s lent after end bs built all =
    one_index (together runs) s (take end after) (by_runs bs built) (added_all lent after end (together runs) bs all).index
