-- At every turn the place after what is left of the tables is the place after all; a table takes at most 589,817 bytes.
use mathlib.Core.Path.{◌≡◌}
use Prim.Native.Nat.{◌+◌, ◌-◌, ◌*◌, ◌≤◌}
use Rattle.tables.specs.Section2.{after_tables}
use Rattle.tables.proofs.after_tables.Given as goal

abbrev pub invariant-loop : goal.invariant-loop
invariant-loop l = (l.from ≤ l.o + 589817 * l.counter) × (after_tables l.s l.from (l.n - l.counter) ≡ after_tables l.s l.o l.n)
