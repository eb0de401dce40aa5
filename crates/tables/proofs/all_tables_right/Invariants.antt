-- At every turn the tables that are left decide, since those passed keep the rule, and take at most 578 bytes each.
use mathlib.Core.Path.{◌≡◌}
use Prim.Native.Nat.{◌+◌, ◌-◌, ◌*◌, ◌≤◌}
use Rattle.tables.specs.Section2.{tables_from, table_right}
use Rattle.wire.specs.RuleWords.{every}
use Rattle.tables.proofs.all_tables_right.Given as goal

abbrev pub invariant-loop : goal.invariant-loop
invariant-loop l = (l.from ≤ l.o + 578 * l.counter)
    × (every (table_right l.tables) (tables_from l.s l.from (l.n - l.counter)) ≡ every (table_right l.tables) (tables_from l.s l.o l.n))
