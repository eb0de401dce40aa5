-- The auditor's index (02, Q-13): adding records one after another gives what building afresh gives, and looking up shows all and only the
-- entries of an identifier. rs are records in order of arrival, r is one more, s and t are bytes, and id is an identifier without its NUL; of
-- a lent index `lent`, `used` bytes are in use. All that is lent are bytes, by its type (`bytes_fit`, crates/wire/src/lib.rt).
use Rattle.std.specs.Prelude.{ℕ, ◌+◌, ◌≤◌, ◌≡◌, true, List, [], ◌∷◌, ◌++◌, map, ◌↔◌, length, take}
use Rattle.wire.specs.Numbers.{bytes_of}
use Rattle.wire.specs.RuleWords.{every, are_bytes}
use Rattle.record.specs.Opening.{opens}
use Rattle.fields.specs.Lookup.{part_bytes}
use Rattle.fields.specs.Recording.{field_of, identifier_of, year_of, month_of, day_of}
use Rattle.index.specs.Entry.{Entry, entry_size, entry_bytes}
use Rattle.index.specs.Order.{in_order}
use Rattle.index.specs.Index.{bytes_in, entries_in, is_index, index_right, has, find_place}
use Rattle.filing.specs.Filing.{entry_of, add_answer, index_after}
use Rattle.arranged.specs.Arranged.{Arranged}
use Rattle.afresh.specs.Afresh.{filable, BuiltAfresh, EntriesInOrder, StoredAny, AddedAll, Accepted, Stored, AllAndOnly, LookedUpIn}

-- an entry with twelve leads, for the examples
abbrev pub twelve_leads : List ℕ → ℕ → ℕ → ℕ → Entry
twelve_leads id year month day = record { identifier = id; year = year; month = month; day = day; leads = 12 }

pub record AuditorsIndex : Type 0 where
  -- Bytes are an index exactly if they are those of entries that keep their rules, in order
  pub index_exactly : (s : List ℕ) → are_bytes s ≡ true → (is_index s ≡ true) ↔ EntriesInOrder s
  -- Records in an order of arrival have at most one index built afresh (`accepted_all` and `adding_all` give one). It keeps the rules of an
  -- index, and its entries are read back as they were filed
  pub one_index : (rs : List (List ℕ)) (s t : List ℕ) → BuiltAfresh rs s → BuiltAfresh rs t → s ≡ t
  pub built_right : (rs : List (List ℕ)) (s : List ℕ) → BuiltAfresh rs s → is_index s ≡ true
  pub read_back : (rs : List (List ℕ)) (s : List ℕ) → BuiltAfresh rs s → Arranged (map entry_of rs) (entries_in s)
  -- Adding a record that is accepted gives the index built afresh from all of them; behind that the lent bytes stay. A record that keeps the
  -- rules that adding asks of it is accepted where there is room for its entry
  pub adding_one : (rs : List (List ℕ)) (lent : List ℕ) (used : ℕ) (r : List ℕ) → BuiltAfresh rs (take used lent)
      → are_bytes r ≡ true → (add_answer lent used r).refusal ≡ 0
      → Stored (rs ++ (r ∷ [])) lent (index_after lent used r) (add_answer lent used r).used
  pub accepted_one : (rs : List (List ℕ)) (lent : List ℕ) (used : ℕ) (r : List ℕ) → BuiltAfresh rs (take used lent) → filable r ≡ true
      → used + entry_size (entry_of r) ≤ length lent → (add_answer lent used r).refusal ≡ 0
  -- So adding records one after another to an empty index, each accepted, gives the index built afresh from them; and each is accepted where
  -- there is room for all
  pub adding_all : (lent after : List ℕ) (end : ℕ) (rs : List (List ℕ)) → every are_bytes rs ≡ true → AddedAll lent 0 rs after end
      → Stored rs lent after end
  pub accepted_all : (lent : List ℕ) (rs : List (List ℕ)) → every filable rs ≡ true → bytes_in (map entry_of rs) ≤ length lent
      → Accepted lent 0 rs
  -- The same of an index of which nobody knows the records: its entries and the new one, arranged
  pub adding_any : (lent : List ℕ) (used : ℕ) (r : List ℕ) → are_bytes lent ≡ true → are_bytes r ≡ true → (add_answer lent used r).refusal ≡ 0
      → StoredAny (entries_in (take used lent) ++ (entry_of r ∷ [])) lent (index_after lent used r) (add_answer lent used r).used
  -- Looking up an identifier shows all and only its entries, in any index; in one built afresh they are those of its records, arranged
  pub all_and_only : (lent id : List ℕ) (used : ℕ) → are_bytes lent ≡ true → index_right lent used ≡ true
      → AllAndOnly id (take used lent) (find_place lent used id)
  pub looked_up : (rs : List (List ℕ)) (lent id : List ℕ) (used : ℕ) → used ≤ length lent → BuiltAfresh rs (take used lent)
      → LookedUpIn rs id (part_bytes lent (find_place lent used id))
  pub one_person : (e : Entry) (id : List ℕ) → (has id e ≡ true) ↔ (e.identifier ≡ id)
  -- The identifier and the date that are filed are those that field lookup shows: the identifier without its NUL, zeros kept
  pub identifier_filed : (r : List ℕ) → opens r ≡ true → field_of r 2 ≡ identifier_of r ++ (0 ∷ [])
  pub date_filed : (r : List ℕ) → are_bytes r ≡ true → opens r ≡ true → field_of r 25 ≡ bytes_of 2 (year_of r) ++ (month_of r ∷ day_of r ∷ [])
  -- By computation: the entry of 007, 14 March 2024, is 0C 1F A0 DC 18 30 30 37; and entries of 00, of 007 on two days, of 0070 and of 7 are in order
  pub example : entry_bytes (twelve_leads (48 ∷ 48 ∷ 55 ∷ []) 2024 3 14) ≡ 12 ∷ 31 ∷ 160 ∷ 220 ∷ 24 ∷ 48 ∷ 48 ∷ 55 ∷ []
  pub order_example : in_order (
      twelve_leads (48 ∷ 48 ∷ []) 2024 5 9
      ∷ twelve_leads (48 ∷ 48 ∷ 55 ∷ []) 2023 12 31
      ∷ twelve_leads (48 ∷ 48 ∷ 55 ∷ []) 2024 1 2
      ∷ twelve_leads (48 ∷ 48 ∷ 55 ∷ 48 ∷ []) 2024 1 1
      ∷ twelve_leads (55 ∷ []) 1999 1 1 ∷ []
      ) ≡ true
