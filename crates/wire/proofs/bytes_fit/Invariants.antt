-- The bytes seen so far are bytes: each is where it is read.
use mathlib.Core.Path.{◌≡◌}
use mathlib.Core.Bool.{true}
use Prim.Native.Nat.{ℕ}
use lib.Dec.{ltb}
use lib.ListN.{take}
use Rattle.wire.specs.RuleWords.{every}
use Rattle.wire.proofs.bytes_fit.Given as goal

abbrev pub invariant-loop-byte : goal.invariant-loop-byte
invariant-loop-byte l = every (λ (b : ℕ). ltb b 256) (take l.byte-index l.s) ≡ true
