-- The cursor stays within the stream.
use Prim.Native.Nat.{◌*◌}
use lib.ListN.{length}
use Rattle.reading.specs.InnerCursor.{Within}
use Rattle.streams.proofs.put_values.Given as goal

abbrev pub invariant-loop : goal.invariant-loop
invariant-loop g l = Within (length l.stream * 8) l.c
