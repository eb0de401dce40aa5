-- Section 2's data and refusal 7 (01, Code tables; 01, Numbers that bound the work; 01, Refusal numbers). The data start at a place of
-- s: at 16 behind a section's header, at 0 where they are given alone.
use Rattle.std.specs.Prelude.{ℕ, zero, suc, ◌+◌, ◌*◌, Bool, ◌&&◌, cond, List, [], ◌∷◌, leb, eqb, length, get_or}
use Rattle.wire.specs.Bounds.{most_tables, most_structures}
use Rattle.wire.specs.Numbers.{number_at}
use Rattle.wire.specs.RuleWords.{every, ends_by}
use Rattle.tables.specs.declared.Structure.{Structure}
use Rattle.tables.specs.Structures.{structures_at, structure_right, prefix_free}
use Rattle.tables.specs.Default.{default_table}

-- the first two bytes say how many tables follow; if they are 19999, none follows, and the default table is the only one
abbrev pub table_count : List ℕ → ℕ → ℕ
table_count s at = number_at 2 s at

unfoldable pub is_default : List ℕ → ℕ → Bool
is_default s at = eqb (table_count s at) 19999

-- a table: the number of its structures (2), then the structures, nine bytes each; and the place after it
unfoldable pub table_at : List ℕ → ℕ → List Structure
table_at s o = structures_at s (o + 2) (number_at 2 s o)

unfoldable pub after_table : List ℕ → ℕ → ℕ
after_table s o = o + 2 + 9 * number_at 2 s o

-- n tables, one after another, and the place after them
unfoldable pub tables_from : List ℕ → ℕ → ℕ → List (List Structure)
tables_from s o zero = []
tables_from s o (suc n) = table_at s o ∷ tables_from s (after_table s o) n

unfoldable pub after_tables : List ℕ → ℕ → ℕ → ℕ
after_tables s o zero = o
after_tables s o (suc n) = after_tables s (after_table s o) n

-- the tables that the data mean, for reader and writer alike
unfoldable pub tables_in : List ℕ → ℕ → List (List Structure)
tables_in s at = cond (is_default s at) (default_table ∷ []) (tables_from s (at + 2) (table_count s at))

-- the table of a number, counted from 1; no structures where there is no such table
unfoldable pub table_of : List (List Structure) → ℕ → List Structure
table_of tables zero = []
table_of tables (suc k) = get_or tables k []

-- 1 to 64 structures, each by its rule, and no prefix that begins another or equals it
unfoldable pub table_right : ℕ → List Structure → Bool
table_right tables cs =
    leb 1 (length cs) && (leb (length cs) most_structures && (every (structure_right tables) cs && prefix_free cs))

-- 7: the default table alone, or 1 to 8 tables, each by its rule; and behind them at most `spare` bytes. (A section's length is even,
-- so that in a record no spare byte can follow the default table's two bytes.)
unfoldable pub section2_right : ℕ → List ℕ → ℕ → Bool
section2_right spare s at =
    cond (is_default s at) (ends_by spare s (at + 2))
    (leb 1 (table_count s at)
    && (leb (table_count s at) most_tables
    && (every (table_right (table_count s at)) (tables_from s (at + 2) (table_count s at))
    && ends_by spare s (after_tables s (at + 2) (table_count s at)))))
