-- With the entries of k leads put, the part is filled up to the next one's place; a turn puts it.
use Prim.Native.Nat.{◌+◌, ◌*◌}
use lib.ListN.{take}
use Rattle.layout.specs.Layout.{entries_of}
use Rattle.layout.proofs.Filled.{Filled}
use Rattle.layout.proofs.put_entries.Given as goal

abbrev pub invariant-loop-k : goal.invariant-loop-k
invariant-loop-k l = Filled l.initial.part 18 (entries_of (take l.k l.firsts) (take l.k l.counts) (take l.k l.ids)) (18 + 9 * l.k) l.part
