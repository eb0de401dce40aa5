-- With k byte counts put, the part is filled up to the next one's place; a turn puts it.
use Prim.Native.Nat.{◌+◌, ◌*◌}
use lib.ListN.{take}
use Rattle.layout.specs.InnerCounts.{byte_counts}
use Rattle.layout.proofs.Filled.{Filled}
use Rattle.layout.proofs.put_counts.Given as goal

abbrev pub invariant-loop-k : goal.invariant-loop-k
invariant-loop-k l = Filled l.initial.part 22 (byte_counts (take l.k l.bytes)) (22 + 2 * l.k) l.part
