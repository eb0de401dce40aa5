-- The pointer's three numbers are put one after another.
use mathlib.Core.Path.{refl, ◌∙◌}
use mathlib.Core.List.{append_assoc}
use Prim.Native.Nat.{◌+◌, ◌*◌}
use native.Mathlib.Omega.{arith}
use Rattle.layout.specs.Layout.{pointer_bytes}
use Rattle.layout.proofs.Filled.{filled_from, filled_number}
use Rattle.layout.proofs.put_pointer.Goals as goal

pub returns : goal.returns
unfolding pointer_bytes
returns c =
    let c = c in
    let a = c.args in
    let k = 16 + 10 * a.id in
    let f1 = filled_number 2 a.id (k + 2) (filled_from a.part.now k (omega arith)) refl c.put16.ensures in
    let f2 = filled_number 4 a.size (k + 6) f1 (omega arith) c.put32.ensures in
    let f3 = filled_number 4 a.index (k + 10) f2 (omega arith) c.put32-2.ensures in
    f3.is ∙ simp append_assoc
