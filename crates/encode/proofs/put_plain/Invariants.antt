-- The bytes of the values before i are at the front.
use Prim.Native.Nat.{◌*◌}
use mathlib.Core.Path.{◌≡◌}
use mathlib.Core.List.{◌++◌}
use lib.ListN.{take, drop}
use Rattle.samples.specs.Differences.{differences}
use Rattle.shortest.specs.InnerRule.{plain_bytes}
use Rattle.encode.proofs.put_plain.Given as goal

abbrev pub invariant-loop-i : goal.invariant-loop-i
invariant-loop-i l = l.out ≡ plain_bytes (take l.i (differences l.order l.xs)) ++ drop (l.i * 2) l.initial.out
