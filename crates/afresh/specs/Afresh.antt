-- An index built afresh from records, and records added one after another (02, Q-13).
use Rattle.std.specs.Prelude.{ℕ, ◌≤◌, ◌≡◌, Bool, true, not, ◌&&◌, List, [], ◌∷◌, ◌++◌, map, length, take, drop, Result}
use Rattle.wire.specs.RuleWords.{every, are_bytes}
use Rattle.record.specs.Opening.{opens}
use Rattle.fields.specs.declared.Part.{Part}
use Rattle.fields.specs.Lookup.{part_bytes}
use Rattle.index.specs.Entry.{Entry, year_fits, entry_right}
use Rattle.index.specs.Order.{in_order}
use Rattle.index.specs.Index.{index_bytes, bytes_in, entries_in, index_right, has, part_or_none}
use Rattle.filing.specs.Filing.{section3_kept, entry_of, date_kept, add_answer, index_after}
use Rattle.arranged.specs.Arranged.{those, Arranged}

-- the bytes of a record that keeps the rules that adding asks of it: rows 1 to 6, 8 for Section 3, and 24
unfoldable pub filable : List ℕ → Bool
filable r = are_bytes r && (opens r && (section3_kept r && date_kept r))

-- the index of records in order of arrival, built afresh: the bytes of their entries, arranged
pub record BuiltAfresh (rs : List (List ℕ)) (s : List ℕ) : Type 0 where
  pub filed : every filable rs ≡ true
  pub entries : List Entry
  pub arranged : Arranged (map entry_of rs) entries
  pub bytes : s ≡ index_bytes entries

-- the bytes of entries that keep their rules and whose years fit, in order
pub record EntriesInOrder (s : List ℕ) : Type 0 where
  pub entries : List Entry
  pub right : every entry_right entries ≡ true
  pub years : every year_fits entries ≡ true
  pub ordered : in_order entries ≡ true
  pub bytes : s ≡ index_bytes entries

-- the lent bytes afterwards: an index of the entries that arrived, arranged, whoever made them; and behind it the lent bytes as they were
pub record StoredAny (arrived : List Entry) (lent after : List ℕ) (end : ℕ) : Type 0 where
  pub right : index_right after end ≡ true
  pub arranged : Arranged arrived (entries_in (take end after))
  pub rest : drop end after ≡ drop end lent
  pub size : length after ≡ length lent

-- records are added one after another, and each is accepted: the lent index and how many bytes of it are in use, before and after
pub data AddedAll : List ℕ → ℕ → List (List ℕ) → List ℕ → ℕ → Type 0 where
  done : {lent : List ℕ} {used : ℕ} → AddedAll lent used [] lent used
  next : {lent after : List ℕ} {used end : ℕ} (r : List ℕ) (rs : List (List ℕ)) → (add_answer lent used r).refusal ≡ 0
      → AddedAll (index_after lent used r) (add_answer lent used r).used rs after end → AddedAll lent used (r ∷ rs) after end

-- all of them are accepted: there are a lent index and a number of bytes in use to which adding them leads
pub record Accepted (lent : List ℕ) (used : ℕ) (rs : List (List ℕ)) : Type 0 where
  pub after : List ℕ
  pub end : ℕ
  pub added : AddedAll lent used rs after end

-- the lent bytes afterwards: the index of records, built afresh, and behind it the lent bytes as they were
pub record Stored (rs : List (List ℕ)) (lent after : List ℕ) (end : ℕ) : Type 0 where
  pub index : BuiltAfresh rs (take end after)
  pub fits : end ≤ length after
  pub rest : drop end after ≡ drop end lent
  pub size : length after ≡ length lent

-- a place in the index s holds all and only the entries of an identifier: entries stand in front of it, in it and behind it, and these are all
-- that the index has; every one in it is of the identifier, and none outside of it is
pub record AllAndOnly (id s : List ℕ) (place : Result Part ℕ) : Type 0 where
  pub ahead : List Entry
  pub inside : List Entry
  pub rest : List Entry
  pub entries : entries_in s ≡ ahead ++ (inside ++ rest)
  pub whole : s ≡ index_bytes ahead ++ (index_bytes inside ++ index_bytes rest)
  pub shown : place ≡ part_or_none (bytes_in ahead) (bytes_in inside)
  pub bytes : part_bytes s place ≡ index_bytes inside
  pub own : every (has id) inside ≡ true
  pub others : every (λ e. not (has id e)) (ahead ++ rest) ≡ true

-- the bytes s are those of an identifier's entries among those of records in order of arrival, arranged
pub record LookedUpIn (rs : List (List ℕ)) (id s : List ℕ) : Type 0 where
  pub entries : List Entry
  pub arranged : Arranged (those (has id) (map entry_of rs)) entries
  pub bytes : s ≡ index_bytes entries
  pub read : entries_in s ≡ entries
