-- Reading on from the cursor gives what reading gave at first; a burst that did not end is further on, within the bits.
use Prim.Native.Nat.{◌+◌, ◌-◌, ◌*◌, ◌≤◌}
use mathlib.Core.Path.{◌≡◌}
use mathlib.Core.List.{List}
use lib.ListN.{length, drop}
use Rattle.bits.specs.Bits.{bits_in}
use Rattle.tables.specs.declared.Structure.{Structure}
use Rattle.compiled.specs.InnerForm.{Compiled}
use Rattle.reading.specs.Reading.{read_coded}
use Rattle.reading.specs.Compared.{compared_coded}
use Rattle.reading.specs.InnerCursor.{Within}
use Rattle.reading.proofs.Cursor.by_bursts.Given as goal

abbrev pub invariant-loop-r : goal.invariant-loop-r
invariant-loop-r l = Within (length l.s * 8) l.c
    × (l.initial.c.at ≤ l.c.at)
    × ((tables : List (List Structure)) → Compiled tables l.tab
    → (read_coded tables l.c.table (drop l.c.at (bits_in l.s)) ≡ read_coded tables l.initial.c.table (drop l.initial.c.at (bits_in l.s)))
    × (l.c.compared + compared_coded tables l.c.table (drop l.c.at (bits_in l.s))
    ≡ l.initial.c.compared + compared_coded tables l.initial.c.table (drop l.initial.c.at (bits_in l.s))))

abbrev pub decreases-loop-r : goal.decreases-loop-r
decreases-loop-r l = length l.s * 8 - l.c.at
