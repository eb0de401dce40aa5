-- With the pointers up to an ID put, the part is filled up to that ID's place; a turn puts the next.
use Prim.Native.Nat.{◌+◌, ◌-◌, ◌*◌}
use Rattle.layout.specs.InnerPointers.{absents}
use Rattle.layout.proofs.Filled.{Filled}
use Rattle.layout.proofs.put_absent.Given as goal

abbrev pub invariant-loop-id : goal.invariant-loop-id
invariant-loop-id l = Filled l.initial.part (16 + 10 * l.from) (absents l.from (l.id - l.from)) (16 + 10 * l.id) l.part
