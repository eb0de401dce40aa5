-- At every turn the bytes and the bits that are left are those of the start (`byte_more`); in the end fewer than eight bits are left.
use Prim.Native.Nat.{◌+◌, ◌*◌, ◌≤◌}
use mathlib.Core.Path.{◌≡◌}
use mathlib.Core.List.{◌++◌}
use lib.ListN.{length, take, drop}
use Rattle.bits.specs.Bits.{high_first, bits_in}
use Rattle.packing.proofs.Sink.put.Given as goal

abbrev pub invariant-loop-part : goal.invariant-loop-part
invariant-loop-part l = (l.part ≤ l.initial.part)
    × (l.at * 8 + l.part ≡ l.initial.at * 8 + l.initial.part)
    × (length l.out ≡ length l.initial.out)
    × (drop l.at l.out ≡ drop l.at l.initial.out)
    × (bits_in (take l.at l.out) ++ high_first l.part l.acc ≡ bits_in (take l.initial.at l.initial.out) ++ high_first l.initial.part l.acc)

abbrev pub decreases-loop-part : goal.decreases-loop-part
decreases-loop-part l = l.part
