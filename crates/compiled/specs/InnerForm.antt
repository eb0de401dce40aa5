-- The tables as the engines hold them: 385 numbers a table, how many structures and then six numbers for each of at most 64. Reading
-- and searching both run on this form, which is made once for a lead. Behind the eight tables there are 256 guesses a table, of which
-- nothing is said. No public contract rests on this.
use Rattle.std.specs.Prelude.{Option, None, Some, ℕ, zero, suc, ◌+◌, ◌-◌, ◌*◌, ◌%◌, ◌^◌, ◌≤◌, ◌<◌, ◌≡◌, true, cond, List, [], ◌∷◌, ◌⊎◌, eqb, length, get_or}
use Rattle.wire.specs.RuleWords.{every}
use Rattle.bits.specs.InnerRaised.{sample_zero, value_zero}
use Rattle.bits.specs.InnerWindow.{turned}
use Rattle.tables.specs.declared.Structure.{Structure}
use Rattle.tables.specs.Structures.{remainder_of, no_structure}
use Rattle.tables.specs.Section2.{table_right, tables_in}
use Rattle.compiled.specs.declared.Form.{Form}

-- how many numbers a table takes; where the guesses begin, behind eight tables; and how many numbers there are in all
abbrev pub table_numbers : ℕ
table_numbers = 385

abbrev pub guesses_at : ℕ
guesses_at = 3080

abbrev pub room_numbers : ℕ
room_numbers = 5128

-- the values that a structure serves, 131,072 added so that no sign is needed: from `lowest` up to `beyond`, which is left out
abbrev pub lowest : ℕ → ℕ → ℕ
lowest base zero = (base + sample_zero) % 65536 + 98304
lowest base (suc w) = value_zero - 2 ^ w

abbrev pub beyond : ℕ → ℕ → ℕ
beyond base zero = (base + sample_zero) % 65536 + 98305
beyond base (suc w) = value_zero + 2 ^ w

-- a structure's form: the lengths of prefix and remainder; the table that a switch leads to, 0 for a value; the values served, none
-- by a switch; and the prefix as a number whose first bit is the highest
unfoldable pub form_of : Structure → Form
form_of c = record {
  prefix = c.prefix;
  remainder = remainder_of c;
  to = cond (eqb c.mode 0) c.base 0;
  lo = cond (eqb c.mode 0) 0 (lowest c.base (remainder_of c));
  hi = cond (eqb c.mode 0) 0 (beyond c.base (remainder_of c));
  word = turned c.prefix c.code;
}

-- the form at place k of table t, both counted from 0
unfoldable pub form_at : List ℕ → ℕ → ℕ → Form
form_at tab t k = record {
  prefix = get_or tab (t * table_numbers + 1 + k * 6) 0;
  remainder = get_or tab (t * table_numbers + 2 + k * 6) 0;
  to = get_or tab (t * table_numbers + 3 + k * 6) 0;
  lo = get_or tab (t * table_numbers + 4 + k * 6) 0;
  hi = get_or tab (t * table_numbers + 5 + k * 6) 0;
  word = get_or tab (t * table_numbers + 6 + k * 6) 0;
}

-- a form's six numbers, in their order
unfoldable pub numbers_of : Form → List ℕ
numbers_of f = f.prefix ∷ (f.remainder ∷ (f.to ∷ (f.lo ∷ (f.hi ∷ (f.word ∷ [])))))

-- table t of the numbers says the structures cs
pub record Says (cs : List Structure) (tab : List ℕ) (t : ℕ) : Type 0 where
  pub count : get_or tab (t * table_numbers) 0 ≡ length cs
  pub form : (k : ℕ) → k < length cs → form_at tab t k ≡ form_of (get_or cs k no_structure)

-- the numbers of all tables but t are as they were
abbrev pub Beside : List ℕ → List ℕ → ℕ → Type 0
Beside before after t = (i : ℕ) → (i < t * table_numbers) ⊎ (t * table_numbers + table_numbers ≤ i) → get_or after i 0 ≡ get_or before i 0

-- the numbers of all tables are as they were, whatever the guesses behind them are
abbrev pub SameTables : List ℕ → List ℕ → Type 0
SameTables before after = (i : ℕ) → i < guesses_at → get_or after i 0 ≡ get_or before i 0

-- the base values of tables have two bytes, as those of Section 2's data have
abbrev pub TwoBytes : List (List Structure) → Type 0
TwoBytes tables = (t k : ℕ) → (get_or (get_or tables t []) k no_structure).base < 65536

-- tables that were judged to be right, and the numbers that say them; a table that is not there has no structure
pub record Compiled (tables : List (List Structure)) (tab : List ℕ) : Type 0 where
  pub room : length tab ≡ room_numbers
  pub some : 1 ≤ length tables
  pub most : length tables ≤ 8
  pub right : every (table_right (length tables)) tables ≡ true
  pub two_bytes : TwoBytes tables
  pub says : (t : ℕ) → t < 8 → Says (get_or tables t []) tab t

-- the numbers say some tables that were judged to be right
abbrev pub CompiledSome : List ℕ → Type 0
CompiledSome tab = (tables : List (List Structure)) × Compiled tables tab

-- the numbers hold the tables: they say them; or, with no Section 2, there are no tables and no numbers
abbrev pub CompiledOrNone : List (List Structure) → List ℕ → Type 0
CompiledOrNone tables tab = Compiled tables tab ⊎ ((tables ≡ []) × (tab ≡ []))

-- the tables that Section 2's data mean, which start at a place; none without Section 2
abbrev pub tables_held : ℕ → Option (List ℕ) → List (List Structure)
tables_held at None = []
tables_held at (Some s) = tables_in s at

-- the numbers hold some tables, or none
abbrev pub CompiledSomeOrNone : List ℕ → Type 0
CompiledSomeOrNone tab = (tables : List (List Structure)) × CompiledOrNone tables tab
