-- Section 3 as the writer lays it out, read behind its header. Assumes nothing.
use Prim.Native.Nat.{ℕ, zero, suc, ◌+◌, ◌-◌, ◌*◌, ◌%◌, ◌≤◌, ◌<◌}
use mathlib.Core.Path.{◌≡◌}
use mathlib.Core.Bool.{true, false}
use mathlib.Core.List.{List, [], ◌∷◌, ◌++◌}
use native.Mathlib.Nat.{add-zero}
use native.Mathlib.Omega.{arith}
use borrow.Author.Tests.{le-leb, ne_eqb}
use lib.ListN.{length, get_or}
use Rattle.wire.specs.Numbers.{bytes_of}
use Rattle.wire.specs.RuleWords.{ends_by}
use Rattle.wire.proofs.Laws.{all_all}
use Rattle.entries.specs.Section3.{lead_count, flags_of, subtracted, first_sample, last_sample, lead_id, sample_count, lead_right, section3_right}
use Rattle.layout.specs.Layout.{entries_of, leads_data}
use Rattle.layout.specs.InnerLeads.{entry_bytes}
use Rattle.layout.proofs.Laws.{length_leads_data}
use Rattle.wire.proofs.Places.{Stands, stands_byte, stands_inner, stands_first, stands_behind, stands_at, stands_written}
use Rattle.trip.proofs.Placed.{Holds}

entry_stands : (firsts counts ids : List ℕ) → length firsts ≡ length counts → length ids ≡ length counts → (k : ℕ) → k < length counts
    → Stands (entries_of firsts counts ids) (9 * k) (entry_bytes (get_or firsts k 0) (get_or counts k 0) (get_or ids k 0))
unfolding entries_of entry_bytes bytes_of
entry_stands [] [] ids e g k h = absurd (omega arith)
entry_stands [] (c ∷ counts) ids e g k h = absurd (omega arith)
entry_stands (f ∷ firsts) [] ids e g k h = absurd (omega arith)
entry_stands (f ∷ firsts) (c ∷ counts) [] e g k h = absurd (omega arith)
entry_stands (f ∷ firsts) (c ∷ counts) (i ∷ ids) e g zero h = stands_first (entry_bytes f c i) (entries_of firsts counts ids)
entry_stands (f ∷ firsts) (c ∷ counts) (i ∷ ids) e g (suc k) h =
    let later = entry_stands firsts counts ids (omega arith) (omega arith) k (omega arith) in
    let a : 9 + 9 * k ≡ 9 * suc k = omega arith in
    stands_at a (stands_behind (entry_bytes f c i) (entries_of firsts counts ids) later)

-- what is asked of a lead's numbers
pub record Asked (firsts counts : List ℕ) (k : ℕ) : Type 0 where
  pub some : 1 ≤ get_or counts k 0
  pub most : get_or counts k 0 ≤ 65536
  pub first : 1 ≤ get_or firsts k 0
  pub last : get_or firsts k 0 + get_or counts k 0 ≤ 4294967296

-- a Section 3 that holds them
pub record Leads (s : List ℕ) (flags : ℕ) (firsts counts ids : List ℕ) : Type 0 where
  pub holds : Holds s (leads_data flags firsts counts ids)
  pub all : length firsts ≡ length counts
  pub named : length ids ≡ length counts
  pub asked : (k : ℕ) → k < length counts → Asked firsts counts k

module _ {s : List ℕ} {flags : ℕ} {firsts counts ids : List ℕ} (l : Leads s flags firsts counts ids) where
  pub leads_count : lead_count s ≡ length counts
  unfolding leads_data
  leads_count = l.holds.moved.byte 0

  pub leads_flags : flags_of s ≡ flags - flags % 2
  unfolding leads_data
  leads_flags = l.holds.moved.byte 1

  -- bit 0 is cleared
  pub leads_whole : subtracted s ≡ false
  leads_whole = rw leads_flags (ne_eqb ((flags - flags % 2) % 2) 1 (λ e. absurd (omega arith)))

  module _ (k : ℕ) (there : k < length counts) where
    entry_there : Stands s (18 + 9 * k) (entry_bytes (get_or firsts k 0) (get_or counts k 0) (get_or ids k 0))
    unfolding leads_data
    entry_there =
        let entries = entries_of firsts counts ids in
        let own = entry_stands firsts counts ids l.all l.named k there in
        let a = stands_behind (length counts ∷ ((flags - flags % 2) ∷ [])) entries own in
        let e : 16 + (2 + 9 * k) ≡ 18 + 9 * k = omega arith in
        stands_at e (stands_inner l.holds.stands a)

    pub lead_first : first_sample s k ≡ get_or firsts k 0
    unfolding entry_bytes
    lead_first =
        let f = get_or firsts k 0 in
        let c = get_or counts k 0 in
        let a = l.asked k there in
        let inner = stands_inner entry_there (stands_first (bytes_of 4 f) (bytes_of 4 (f + c - 1) ++ (get_or ids k 0 ∷ []))) in
        stands_written 4 f (omega arith) (stands_at (add-zero (18 + 9 * k)) inner)

    pub lead_last : last_sample s k ≡ get_or firsts k 0 + get_or counts k 0 - 1
    unfolding entry_bytes bytes_of
    lead_last =
        let f = get_or firsts k 0 in
        let c = get_or counts k 0 in
        let a = l.asked k there in
        let i = get_or ids k 0 ∷ [] in
        let last = bytes_of 4 (f + c - 1) in
        let inner = stands_inner entry_there (stands_behind (bytes_of 4 f) (last ++ i) (stands_first last i)) in
        let e : 18 + 9 * k + 4 ≡ 22 + 9 * k = omega arith in
        stands_written 4 (f + c - 1) (omega arith) (stands_at e inner)

    pub lead_id_lem : lead_id s k ≡ get_or ids k 0
    unfolding entry_bytes bytes_of
    lead_id_lem =
        let e : 26 + 9 * k ≡ 18 + 9 * k + 8 = omega arith in
        rw e (stands_byte entry_there 8 (omega arith))

    pub lead_count_lem : sample_count s k ≡ get_or counts k 0
    lead_count_lem = let a = l.asked k there in rw (lead_first, lead_last) (omega arith)

    lead_kept : lead_right s k ≡ true
    unfolding lead_right
    lead_kept =
        let a = l.asked k there in
        let f = get_or firsts k 0 in
        let c = get_or counts k 0 in
        rw (lead_count_lem, lead_first, lead_last, le-leb 1 f a.first, le-leb f (f + c - 1) (omega arith), le-leb c 65536 a.most)

  -- the section keeps its rule
  pub leads_kept : 1 ≤ length counts → length counts ≤ 32 → section3_right s ≡ true
  unfolding section3_right ends_by
  leads_kept low top =
      let n = length counts in
      let size = length_leads_data flags firsts counts ids l.all l.named in
      let all = all_all (lead_right s) 0 n (λ k a b. lead_kept k b) in
      let a = le-leb (18 + 9 * n) (length s) (omega (arith, l.holds.moved.least)) in
      let b = le-leb (length s) (18 + 9 * n + 1) (omega (arith, l.holds.moved.most)) in
      rw (leads_count, le-leb 1 n low, le-leb n 32 top, all, a, b)
