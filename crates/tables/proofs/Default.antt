-- The default table keeps the rule of a table, and each prefix is its run of ones and what ends it: one test over the whole table gives
-- both at every entry. Assumes nothing.
use Prim.Native.Nat.{ℕ, ◌<◌}
use mathlib.Core.Path.{◌≡◌, refl, sym, ap, ◌∙◌}
use mathlib.Core.Bool.{true}
use mathlib.Core.List.{List, [], map}
use lib.ListN.{get_or, get_or-map}
use Rattle.wire.specs.RuleWords.{every}
use Rattle.bits.specs.Bits.{low_first, begins}
use Rattle.tables.specs.Structures.{prefix_of, mode_right, structure_right, apart, prefix_free, no_structure}
use Rattle.tables.specs.Default.{default_table, two_values, valued, ones, code_of, runs, DefaultRule}
use Rattle.tables.specs.Section2.{table_right}
use Rattle.tables.proofs.Laws.{table_right_lem, free_at}

-- the test
passes : (table_right 1 default_table ≡ true) × (map prefix_of default_table ≡ runs)
unfolding table_right every structure_right mode_right prefix_free apart begins low_first default_table two_values valued ones code_of runs
passes = (refl, refl)

-- 19 structures, each by its rule, and no prefix that begins another
pub default_right : table_right 1 default_table ≡ true
default_right = passes.0

-- no prefix begins another: any two places
free : (j k : ℕ) → j < k → k < 19 → apart (get_or default_table j no_structure) (get_or default_table k no_structure) ≡ true
unfolding default_table two_values
free = free_at default_table (table_right_lem 1 default_table default_right).free

-- the run of ones at each place
run : (k : ℕ) → prefix_of (get_or default_table k no_structure) ≡ get_or runs k []
unfolding low_first
run k = sym (get_or-map prefix_of default_table k no_structure) ∙ ap (λ (l : List (List ℕ)). get_or l k []) passes.1

pub default_rule : DefaultRule
default_rule = record { free = free; run = run }
