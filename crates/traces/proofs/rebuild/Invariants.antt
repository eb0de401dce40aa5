-- The stream is rebuilt to the samples that are in the room, before what is rebuilt from the cursor on.
use Prim.Native.Nat.{◌+◌, ◌-◌, ◌*◌, ◌<◌}
use mathlib.Core.Path.{◌≡◌}
use mathlib.Core.List.{List}
use lib.ListN.{length, take, drop}
use Rattle.bits.specs.Bits.{bits_in}
use Rattle.bits.specs.InnerRaised.{from_zero}
use Rattle.samples.specs.InnerTrace.{before}
use Rattle.tables.specs.declared.Structure.{Structure}
use Rattle.compiled.specs.InnerForm.{CompiledOrNone}
use Rattle.reading.specs.Compared.{compared_from, compared_of}
use Rattle.reading.specs.InnerCursor.{Within}
use Rattle.traces.specs.Rebuilding.{rebuild_from, rebuild}
use Rattle.traces.proofs.rebuild.Given as goal

abbrev pub invariant-loop-j : goal.invariant-loop-j
invariant-loop-j l = record {
  within : Within (length l.s * 8) l.c;
  last : l.last < 65536;
  other : l.other < 65536;
  traced : (tables : List (List Structure)) → CompiledOrNone tables l.tab
      → rebuild tables l.order (length l.fn.room) (bits_in l.s)
      ≡ before (take l.j l.room) (rebuild_from tables l.order (length l.fn.room - l.j) l.j (from_zero 32768 l.last) (from_zero 32768 l.other) l.c.table (drop l.c.at (bits_in l.s)));
  summed : (tables : List (List Structure)) → CompiledOrNone tables l.tab
      → l.c.compared + compared_from tables (length l.fn.room - l.j) l.c.table (drop l.c.at (bits_in l.s)) ≡ compared_of tables (length l.fn.room) (bits_in l.s);
}
