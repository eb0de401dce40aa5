-- An entry of the auditor's index, its bytes, and what stands at the front of bytes (02, Q-13).
use Rattle.std.specs.Prelude.{ℕ, ◌+◌, Bool, not, ◌&&◌, cond, List, [], ◌∷◌, ◌++◌, leb, ltb, eqb, length, take, drop}
use Rattle.wire.specs.Bounds.{most_leads}
use Rattle.wire.specs.RuleWords.{every}
use Rattle.bits.specs.Bits.{high_first, bits_in, number_of}
use Rattle.packing.specs.Packing.{packed}
use Rattle.index.specs.declared.IndexEntry.{IndexEntry}

-- whose recording it is, by the identifier without its NUL, of which day, and how many leads it has
pub record Entry : Type 0 where
  pub identifier : List ℕ
  pub year : ℕ
  pub month : ℕ
  pub day : ℕ
  pub leads : ℕ

-- its bits, the most significant first: in 6 how many bytes the identifier has, in 16 the year, in 4 the month, in 5 the day, in 8 the
-- leads, and one 0. These are five bytes, and the identifier's bytes follow them
unfoldable pub head_bits : Entry → List ℕ
head_bits e =
    high_first 6 (length e.identifier)
    ++ (high_first 16 e.year ++ (high_first 4 e.month ++ (high_first 5 e.day ++ (high_first 8 e.leads ++ (0 ∷ [])))))

unfoldable pub entry_bytes : Entry → List ℕ
entry_bytes e = packed (head_bits e) ++ e.identifier

abbrev pub head_size : ℕ
head_size = 5

abbrev pub entry_size : Entry → ℕ
entry_size e = head_size + length e.identifier

-- the number in `width` bits of the five bytes at the front of s, from one of the bits on, counted from 0
unfoldable pub head_number : List ℕ → ℕ → ℕ → ℕ
head_number s from width = number_of (take width (drop from (bits_in (take head_size s))))

-- the entry at the front of s: its numbers, each behind the one before it, and as many bytes behind them as the first number says
unfoldable pub entry_in : List ℕ → Entry
entry_in s = record {
  identifier = take (head_number s 0 6) (drop head_size s);
  year = head_number s 6 16;
  month = head_number s 22 4;
  day = head_number s 26 5;
  leads = head_number s 31 8;
}

-- the one bit behind them, which is 0
abbrev pub zero_bit : List ℕ → ℕ
zero_bit s = head_number s 39 1

-- a month is 1 to 12, a day 1 to 31
unfoldable pub date_right : ℕ → ℕ → Bool
date_right month day = leb 1 month && (leb month 12 && (leb 1 day && leb day 31))

-- a year has room in its 16 bits
abbrev pub year_fits : Entry → Bool
year_fits e = ltb e.year 65536

-- the rules of an entry: its identifier has 1 to 63 bytes, none of them NUL; its month and its day are right; it has 0 to 32 leads (0 where the
-- record has no Section 3). The year is any
unfoldable pub entry_right : Entry → Bool
entry_right e =
    leb 1 (length e.identifier)
    && (leb (length e.identifier) 63
    && (every (λ b. not (eqb b 0)) e.identifier && (date_right e.month e.day && leb e.leads most_leads)))

-- a whole entry by the rules is at the front of s: all its bytes are there, the one bit is 0, and the entry keeps its rules
unfoldable pub is_entry : List ℕ → Bool
is_entry s = leb (head_size + head_number s 0 6) (length s) && (eqb (zero_bit s) 0 && entry_right (entry_in s))

-- a step along the index shows the entry at a place, its identifier as a part of the bytes, and the place behind it; where no whole
-- entry by the rules is there, it shows none, and the same place
abbrev pub shown_at : ℕ → Entry → IndexEntry
shown_at at e = record {
  more = 1;
  month = e.month;
  day = e.day;
  leads = e.leads;
  year = e.year;
  start = at + head_size;
  length = length e.identifier;
  next = at + entry_size e;
}

abbrev pub none_at : ℕ → IndexEntry
none_at at = record { more = 0; month = 0; day = 0; leads = 0; year = 0; start = 0; length = 0; next = at }

unfoldable pub entry_at : List ℕ → ℕ → IndexEntry
entry_at s at = cond (is_entry (drop at s)) (shown_at at (entry_in (drop at s))) (none_at at)
