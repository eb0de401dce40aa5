use Prim.Native.Nat.{ℕ}
use mathlib.Core.Path.{refl}
use native.Mathlib.Numerals.{add-one}
use native.Mathlib.Omega.{arith}
use borrow.Author.Tests.{lt-ltb}
use lib.Dec.{ltb}
use lib.ListN.{get_or, take}
use lib.Seq.{take-suc}
use Rattle.wire.specs.RuleWords.{every}
use Rattle.wire.proofs.Every.{every_more}
use Rattle.wire.proofs.bytes_fit.Goals as goal

pub loop-byte-init : goal.loop-byte-init
unfolding every
loop-byte-init c = refl

pub loop-byte-preserved : goal.loop-byte-preserved
loop-byte-preserved c = let s = c.args.s.now in
    let i = c.loop-byte.byte-index in
    let small = lt-ltb (get_or s i 0) 256 (omega (arith, c.type_inv.s i)) in
    rw (add-one i, take-suc s i 0 (omega arith)) (every_more (λ (b : ℕ). ltb b 256) (take i s) (get_or s i 0) c.loop-byte.invariant small)
