-- Adding a record to the auditor's index (02, Q-13). `lent` is the lent index, of which the first `used` bytes are in use, and r the bytes
-- of the record.
use Rattle.std.specs.Prelude.{ℕ, ◌+◌, Bool, not, ◌||◌, cond, List, ◌++◌, leb, eqb, length, take, drop}
use Rattle.wire.specs.Numbers.{part}
use Rattle.wire.specs.RuleWords.{unless}
use Rattle.pointers.specs.Pointers.{present, section_of}
use Rattle.record.specs.Opening.{open_refusal, opens}
use Rattle.fields.specs.Recording.{identifier_of, year_of, month_of, day_of}
use Rattle.entries.specs.Section3.{lead_count, section3_right}
use Rattle.index.specs.Entry.{Entry, entry_bytes, entry_size, date_right}
use Rattle.index.specs.Index.{entries_in, bytes_in, index_right, front, up_to}
use Rattle.filing.specs.declared.Indexed.{Indexed}

-- 8: Section 3 is absent, or keeps its rule; of Sections 4 to 6 adding asks no more than opening does
unfoldable pub section3_kept : List ℕ → Bool
section3_kept r = not (present r 3) || section3_right (section_of r 3)

-- how many leads Section 3 says that there are, and 0 without it
unfoldable pub leads_of : List ℕ → ℕ
leads_of r = cond (present r 3) (lead_count (section_of r 3)) 0

-- the record's entry
unfoldable pub entry_of : List ℕ → Entry
entry_of r = record { identifier = identifier_of r; year = year_of r; month = month_of r; day = day_of r; leads = leads_of r }

-- 24: the date of the recording has a month from 1 to 12 and a day from 1 to 31
unfoldable pub date_kept : List ℕ → Bool
date_kept r = date_right (month_of r) (day_of r)

-- 11: the lent index has room for the entry behind what is in use
unfoldable pub room_right : List ℕ → ℕ → List ℕ → Bool
room_right lent used r = leb (used + entry_size (entry_of r)) (length lent)

-- 26 comes first, then opening's 1 to 6, then 8, 24 and 11; 0 where no rule is broken
unfoldable pub add_refusal : List ℕ → ℕ → List ℕ → ℕ
add_refusal lent used r =
    unless (index_right lent used) 26
    (cond (opens r)
    (unless (section3_kept r) 8 (unless (date_kept r) 24 (unless (room_right lent used r) 11 0)))
    (open_refusal r))

-- the answer: how many bytes are in use now, and 0 with a refusal
unfoldable pub add_answer : List ℕ → ℕ → List ℕ → Indexed
add_answer lent used r = record {
  refusal = add_refusal lent used r;
  used = cond (eqb (add_refusal lent used r) 0) (used + entry_size (entry_of r)) 0;
}

-- the place at which `placed` puts an entry in: this many bytes behind the start
unfoldable pub place_for : Entry → List Entry → ℕ
place_for e es = bytes_in (front (up_to e) es)

-- the lent bytes with an entry put in at a place: what was in use from there on stands behind it, and the rest is as it was
unfoldable pub put_in : List ℕ → ℕ → ℕ → Entry → List ℕ
put_in lent used at e = take at lent ++ (entry_bytes e ++ (part lent at used ++ drop (used + entry_size e) lent))

-- the lent index afterwards; a refusal leaves it as it was
unfoldable pub index_after : List ℕ → ℕ → List ℕ → List ℕ
index_after lent used r =
    cond (eqb (add_refusal lent used r) 0)
    (put_in lent used (place_for (entry_of r) (entries_in (take used lent))) (entry_of r))
    lent
