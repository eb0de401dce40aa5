-- What a step along the index shows, and how far entries that keep a rule go. No public contract rests on this.
use Rattle.std.specs.Prelude.{ℕ, ◌+◌, ◌≤◌, ◌≡◌, Bool, ◌&&◌, ◌||◌, List, [], ◌∷◌, leb, eqb, length, drop}
use Rattle.wire.specs.Bounds.{most_leads}
use Rattle.wire.specs.Numbers.{part}
use Rattle.fields.specs.Identifier.{same}
use Rattle.index.specs.declared.Date.{Date}
use Rattle.index.specs.declared.IndexEntry.{IndexEntry}
use Rattle.index.specs.Entry.{Entry, date_right}
use Rattle.index.specs.Order.{less}
use Rattle.index.specs.Index.{bytes_in, entries_in, front, behind}

-- the rules on the numbers of an entry's first five bytes
unfoldable pub head_right : ℕ → ℕ → ℕ → ℕ → ℕ → Bool
head_right size month day leads last = leb 1 size && (date_right month day && (leb leads most_leads && eqb last 0))

-- the entry that a step shows of the bytes s
abbrev pub seen : List ℕ → IndexEntry → Entry
seen s e = record { identifier = part s e.start e.next; year = e.year; month = e.month; day = e.day; leads = e.leads }

-- the date that a step shows
abbrev pub date_shown : IndexEntry → Date
date_shown e = record { year = e.year; month = e.month; day = e.day }

-- a date in the order of its numbers
abbrev pub date_in : Date → List ℕ
date_in d = d.year ∷ d.month ∷ d.day ∷ []

-- one identifier and date come before others
abbrev pub before_by : List ℕ → Date → List ℕ → Date → Bool
before_by a d b f = less a b || (same a b && less (date_in d) (date_in f))

-- whole entries by the rules take up all bytes from a place on
abbrev pub Whole : List ℕ → ℕ → Type 0
Whole s at = at + bytes_in (entries_in (drop at s)) ≡ length s

-- a walk has gone from a place to another behind the entries that keep a rule
pub record Passed (rule : Entry → Bool) (s : List ℕ) (at to : ℕ) : Type 0 where
  pub place : to ≡ at + bytes_in (front rule (entries_in (drop at s)))
  pub rest : entries_in (drop to s) ≡ behind rule (entries_in (drop at s))
  pub within : to ≤ length s
