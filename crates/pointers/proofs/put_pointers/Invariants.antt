-- With k pointers put, the numbers are those of the first k, then as they were; a turn puts the next three.
use Prim.Native.Nat.{◌*◌}
use mathlib.Core.Path.{◌≡◌}
use mathlib.Core.List.{◌++◌}
use lib.ListN.{drop}
use Rattle.pointers.specs.Pointers.{pointers_from}
use Rattle.pointers.proofs.put_pointers.Given as goal

abbrev pub invariant-loop-k : goal.invariant-loop-k
invariant-loop-k l = (l.pointers ≡ pointers_from l.rec 0 l.k ++ drop (3 * l.k) l.initial.pointers)
