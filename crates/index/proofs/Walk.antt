-- Entries one after another: what a step shows of them, how far those that keep a rule go, and what is judged on the way. Assumes nothing.
use Prim.Native.Nat.{ℕ, zero, suc, ◌+◌, ◌-◌, ◌≤◌, ◌<◌}
use mathlib.Core.Path.{◌≡◌, refl, sym, ap, ◌∙◌}
use mathlib.Core.Bool.{Bool, true, false, ◌&&◌, cond, and-false, and-true, and-eq-true_iff}
use mathlib.Core.List.{List, [], ◌∷◌}
use native.Mathlib.Decide.{dec_le}
use native.Mathlib.Omega.{arith}
use native.Mathlib.Nat.{zero-add, add-zero}
use lib.Dec.{leb, eqb}
use lib.ListN.{length, take, drop, length-drop}
use lib.Seq.{drop-drop}
use borrow.Author.Tests.{leb-true, eqb-true}
use Rattle.index.specs.declared.IndexEntry.{IndexEntry}
use Rattle.fields.specs.Identifier.{same}
use Rattle.index.specs.Entry.{Entry, head_size, entry_size, head_number, entry_in, entry_right, is_entry, shown_at, none_at, entry_at}
use Rattle.index.specs.Order.{less, date_of, before, ordered_from, in_order}
use Rattle.index.specs.Index.{bytes_in, entries_from, entries_in, is_index, front, behind}
use Rattle.index.specs.InnerSteps.{seen, Whole, Passed}
use Rattle.index.proofs.Heads.{identifier_length, entry_cut, entry_fits, entry_kept}

-- ---- all entries, whatever the bound on the steps

-- one step more than there are bytes finds nothing more
one_more : (n : ℕ) (s : List ℕ) → length s ≤ n → entries_from (suc n) s ≡ entries_from n s
unfolding entries_from
one_more zero s h = rw (entry_cut s (omega arith))
one_more (suc n) s h =
    ap (λ (es : List Entry). cond (is_entry s) (entry_in s ∷ es) [])
    (one_more n (drop (entry_size (entry_in s)) s) (omega (arith, length-drop (entry_size (entry_in s)) s)))

steps_enough : (n : ℕ) (s : List ℕ) → length s ≤ n → entries_from n s ≡ entries_in s
unfolding entries_in
steps_enough zero s h = let none : length s ≡ 0 = omega arith in rw none
steps_enough (suc n) s h = go (dec_le (length s) n) (λ l. steps_enough n s l)
  where
    go : Dec (length s ≤ n) → (length s ≤ n → entries_from n s ≡ entries_from (length s) s) → entries_from (suc n) s ≡ entries_from (length s) s
    go (yes l) fewer = one_more n s l ∙ fewer l
    go (no l) fewer = let all : length s ≡ suc n = omega arith in rw all

-- the entries of bytes: the one at the front, then those behind it; or none
pub entries_step : (s : List ℕ) → entries_in s ≡ cond (is_entry s) (entry_in s ∷ entries_in (drop (entry_size (entry_in s)) s)) []
unfolding entries_from entries_in
entries_step s =
    sym (one_more (length s) s (omega arith))
    ∙ ap (λ (es : List Entry). cond (is_entry s) (entry_in s ∷ es) [])
    (steps_enough (length s) (drop (entry_size (entry_in s)) s) (omega (arith, length-drop (entry_size (entry_in s)) s)))

-- ---- a step

-- what a step from a place shows: the first of the entries from there on, and the place of the others
pub record Shown (s : List ℕ) (at : ℕ) (e : IndexEntry) : Type 0 where
  pub entries : entries_in (drop at s) ≡ seen s e ∷ entries_in (drop e.next s)
  pub size : e.next ≡ at + entry_size (seen s e)
  pub within : e.next ≤ length s

-- the entry at a place is what its struct says
pub seen_there : (s : List ℕ) (at : ℕ) → head_size + head_number (drop at s) 0 6 ≤ length (drop at s)
    → seen s (shown_at at (entry_in (drop at s))) ≡ entry_in (drop at s)
unfolding entry_in
seen_there s at h =
    let n = head_number (drop at s) 0 6 in
    let k = length (take n (drop head_size (drop at s))) in
    let e : at + (head_size + k) - (at + head_size) ≡ n = omega (arith, identifier_length (drop at s) h) in
    rw (e, ← drop-drop head_size at s)

-- a step that shows an entry shows the first, and the others are behind it
pub shown_there : (s : List ℕ) (at : ℕ) → is_entry (drop at s) ≡ true → Shown s at (shown_at at (entry_in (drop at s)))
shown_there s at h =
    let t = drop at s in
    let fits = entry_fits t h in
    let there = seen_there s at fits in
    let rest = ap entries_in (drop-drop (entry_size (entry_in t)) at s) in
    record {
      entries = entries_step t ∙ rw (h, there, rest);
      size = ap (λ (e : Entry). at + entry_size e) (sym there);
      within = omega (arith, identifier_length t fits, length-drop at s);
    }

-- so does a struct that is known to be that step's
pub shown_at_lem : (s : List ℕ) (at : ℕ) (e : IndexEntry) → e ≡ entry_at s at → is_entry (drop at s) ≡ true → Shown s at e
unfolding entry_at
shown_at_lem s at e is h = rw (is, h) (shown_there s at h)

-- where there is none, there are none behind it
pub none_there : (s : List ℕ) (at : ℕ) → is_entry (drop at s) ≡ false → entries_in (drop at s) ≡ []
none_there s at h = rw (entries_step (drop at s), h)

-- ---- the entries that keep a rule

-- the bytes of entries up to the first that breaks a rule and of those from it on are the bytes of all
pub bytes_split : (rule : Entry → Bool) (es : List Entry) → bytes_in (front rule es) + bytes_in (behind rule es) ≡ bytes_in es
unfolding front behind bytes_in
bytes_split rule [] = refl
bytes_split rule (e ∷ es) = go (rule e) (bytes_split rule es)
  where
    go : (b : Bool) → bytes_in (front rule es) + bytes_in (behind rule es) ≡ bytes_in es
        → bytes_in (cond b (e ∷ front rule es) []) + bytes_in (cond b (behind rule es) (e ∷ es)) ≡ bytes_in (e ∷ es)
    go true h = omega arith
    go false h = omega arith

-- a walk from a place has reached another: those that keep the rule from there on are the last of those that do from the first place on
pub record Going (rule : Entry → Bool) (s : List ℕ) (from at : ℕ) : Type 0 where
  pub place : at + bytes_in (front rule (entries_in (drop at s))) ≡ from + bytes_in (front rule (entries_in (drop from s)))
  pub rest : behind rule (entries_in (drop at s)) ≡ behind rule (entries_in (drop from s))
  pub within : at ≤ length s

module _ (rule : Entry → Bool) (s : List ℕ) where
  -- an entry that keeps the rule is passed
  pub going_on : (from at : ℕ) (e : IndexEntry) → Going rule s from at → Shown s at e → rule (seen s e) ≡ true → Going rule s from e.next
  unfolding front behind bytes_in
  going_on from at e g w keeps = record {
    place = let p = rw (w.entries, keeps) at g.place in omega (arith, w.size);
    rest = rw (w.entries, keeps) at g.rest;
    within = w.within;
  }

  -- one that breaks it ends the walk
  pub going_stop : (from at : ℕ) (e : IndexEntry) → Going rule s from at → Shown s at e → rule (seen s e) ≡ false → Passed rule s from at
  unfolding front behind bytes_in
  going_stop from at e g w breaks = record {
    place = let p = rw (w.entries, breaks) at g.place in omega arith;
    rest = let q = rw (w.entries, breaks) at g.rest in w.entries ∙ q;
    within = g.within;
  }

  -- and so does the last
  pub going_end : (from at : ℕ) → Going rule s from at → entries_in (drop at s) ≡ [] → Passed rule s from at
  unfolding front behind bytes_in
  going_end from at g none = record {
    place = let p = rw none at g.place in omega arith;
    rest = let q = rw none at g.rest in none ∙ q;
    within = g.within;
  }

-- ---- entries that take up all bytes

-- those of an index do
pub index_whole : (s : List ℕ) → is_index s ≡ true → Whole s 0
unfolding is_index
index_whole s h =
    let n = bytes_in (entries_in s) in omega (arith, eqb-true n (length s) ((and-eq-true_iff (eqb n (length s)) _).0 h).0)

-- and they are in order
pub index_ordered : (s : List ℕ) → is_index s ≡ true → in_order (entries_in s) ≡ true
unfolding is_index
index_ordered s h = ((and-eq-true_iff (eqb (bytes_in (entries_in s)) (length s)) _).0 h).1

-- from a place before the end on there is one
pub whole_entry : (s : List ℕ) (at : ℕ) → Whole s at → at < length s → is_entry (drop at s) ≡ true
unfolding bytes_in
whole_entry s at w h = go (is_entry (drop at s)) refl
  where
    go : (b : Bool) → is_entry (drop at s) ≡ b → is_entry (drop at s) ≡ true
    go true e = e
    go false e = absurd (omega (arith, rw (none_there s at e) at w))

-- at the end there is none
pub none_past : (s : List ℕ) (at : ℕ) → length s ≤ at → entries_in (drop at s) ≡ []
none_past s at h = none_there s at (entry_cut (drop at s) (omega (arith, length-drop at s)))

-- and so they do behind it
pub whole_on : (s : List ℕ) (at : ℕ) (e : IndexEntry) → Whole s at → Shown s at e → Whole s e.next
unfolding bytes_in
whole_on s at e w shown = let n = rw shown.entries at w in omega (arith, shown.size)

-- ---- judging

-- all entries up to one were judged: those behind it decide
pub record Judged (s : List ℕ) (e : IndexEntry) : Type 0 where
  pub size : bytes_in (entries_in s) ≡ e.next + bytes_in (entries_in (drop e.next s))
  pub order : in_order (entries_in s) ≡ ordered_from (seen s e) (entries_in (drop e.next s))
  pub within : e.next ≤ length s

-- an entry at the front has an identifier
named : (s : List ℕ) → is_entry s ≡ true → 1 ≤ length (entry_in s).identifier
unfolding entry_right
named s h =
    let n = length (entry_in s).identifier in leb-true 1 n ((and-eq-true_iff (leb 1 n) _).0 (entry_kept s h).1).0

-- and does not come before one that has none
not_before_none : (e f : Entry) → 1 ≤ length e.identifier → f.identifier ≡ [] → before e f ≡ false
unfolding before less same
not_before_none e f h none = rw none (go e.identifier h)
  where
    go : (id : List ℕ) → 1 ≤ length id → same id [] && less (date_of e) (date_of f) ≡ false
    go [] k = absurd (omega arith)
    go (x ∷ id) k = refl

module _ (s : List ℕ) where
  -- before the first there is none, and no identifier: no entry comes before that
  pub judged_from : Judged s (none_at 0)
  unfolding in_order ordered_from
  judged_from = record { size = sym (zero-add _); order = go (is_entry s) refl; within = omega arith }
    where
      go : (b : Bool) → is_entry s ≡ b → in_order (entries_in s) ≡ ordered_from (seen s (none_at 0)) (entries_in s)
      go false h = rw (entries_step s, h)
      go true h = rw (entries_step s, h, not_before_none (entry_in s) (seen s (none_at 0)) (named s h) refl)

  -- the next does not come before it
  pub judged_on : (e f : IndexEntry) → Judged s e → Shown s e.next f → before (seen s f) (seen s e) ≡ false → Judged s f
  unfolding bytes_in ordered_from
  judged_on e f j w kept = record {
    size = let n = rw w.entries at j.size in omega (arith, w.size);
    order = rw (w.entries, kept) at j.order;
    within = w.within;
  }

  -- the next does, so the bytes are no index
  pub judged_before : (e f : IndexEntry) → Judged s e → Shown s e.next f → before (seen s f) (seen s e) ≡ true → is_index s ≡ false
  unfolding ordered_from is_index
  judged_before e f j w wrong =
      let order = rw (w.entries, wrong) at j.order in rw order (and-false (eqb (bytes_in (entries_in s)) (length s)))

  -- there is no other: all bytes must be taken up
  pub judged_end : (e : IndexEntry) → Judged s e → entries_in (drop e.next s) ≡ [] → is_index s ≡ eqb e.next (length s)
  unfolding ordered_from bytes_in is_index
  judged_end e j none =
      let size : bytes_in (entries_in s) ≡ e.next = rw none at j.size ∙ add-zero e.next in
      let order = rw none at j.order in
      rw (size, order) (and-true (eqb e.next (length s)))
