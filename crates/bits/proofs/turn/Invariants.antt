-- At every turn the bits still to come lead the number, as it is, to the definition's answer; after the last the number is that answer.
use mathlib.Core.Path.{◌≡◌}
use Prim.Native.Nat.{◌-◌, ◌^◌, ◌<◌}
use Rattle.bits.specs.Bits.{low_first, number_after}
use Rattle.bits.specs.InnerWindow.{turned}
use Rattle.bits.proofs.turn.Given as goal

abbrev pub invariant-loop : goal.invariant-loop
invariant-loop l = (l.turned < 2 ^ l.counter) × (number_after l.turned (low_first (l.p - l.counter) l.rest) ≡ turned l.p l.code)
