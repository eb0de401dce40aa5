-- With t tables passed the first t are there, and the next one is put beside them; a right table takes at most 578 bytes, so every
-- place fits.
use Prim.Native.Nat.{ℕ, ◌+◌, ◌-◌, ◌*◌, ◌≤◌, ◌<◌}
use mathlib.Core.Path.{◌≡◌}
use mathlib.Core.List.{[]}
use lib.ListN.{get_or, drop}
use Rattle.tables.specs.Section2.{tables_from}
use Rattle.compiled.specs.InnerForm.{Says}
use Rattle.compiled.proofs.put_tables.Given as goal

abbrev pub invariant-loop-t : goal.invariant-loop-t
invariant-loop-t l = (l.from ≤ l.o + 578 * l.t)
    × (tables_from l.s l.from (l.n - l.t) ≡ drop l.t (tables_from l.s l.o l.n))
    × ((u : ℕ) → u < l.t → Says (get_or (tables_from l.s l.o l.n) u []) l.tab u)
