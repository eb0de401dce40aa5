-- At every turn the structures that are left decide, since none before matched; the form of the next one tells whether it does.
use Prim.Native.Nat.{ℕ, ◌+◌}
use mathlib.Core.Path.{◌≡◌}
use mathlib.Core.List.{List, []}
use lib.ListN.{get_or, drop}
use Rattle.tables.specs.declared.Structure.{Structure}
use Rattle.compiled.specs.InnerForm.{Compiled}
use Rattle.reading.specs.Reading.{matching}
use Rattle.reading.specs.Compared.{compared_in}
use Rattle.reading.specs.InnerCursor.{Seen}
use Rattle.reading.proofs.walk.Given as goal

abbrev pub invariant-loop-k : goal.invariant-loop-k
invariant-loop-k l = (tables : List (List Structure)) (bs : List ℕ) → Compiled tables l.tab → Seen bs l.w l.left
    → (matching (drop l.k (get_or tables l.t [])) bs ≡ matching (get_or tables l.t []) bs)
    × (l.k + compared_in (drop l.k (get_or tables l.t [])) bs ≡ compared_in (get_or tables l.t []) bs)
