-- The twelve pointers are put one after another, up to the part's end.
use Prim.Native.Nat.{ℕ, ◌+◌}
use mathlib.Core.Path.{refl, ap, ◌∙◌}
use mathlib.Core.Bool.{cond}
use mathlib.Core.List.{List, ◌++◌}
use native.Mathlib.Omega.{arith}
use lib.ListN.{take}
use lib.Dec.{eqb}
use Rattle.layout.specs.Layout.{pointer_bytes}
use Rattle.layout.specs.InnerPointers.{absents}
use Rattle.layout.proofs.Filled.{filled_from, filled_put}
use Rattle.layout.proofs.Laws.{length_pointer_bytes, length_absents, pointers_are}
use Rattle.layout.proofs.put_pointers.Goals as goal

pub returns : goal.returns
returns c =
    let c = c in
    let c = c in
    let c = c in
    let c = c in
    let a = c.args in
    let index2 = 143 + a.size1 in
    let index3 = index2 + a.size2 in
    let index6 = index3 + a.size3 in
    let may = cond (eqb a.size2 0) 0 index2 in
    let f0 = filled_from a.part.now 16 (omega arith) in
    let n2 = length_pointer_bytes 2 a.size2 may in
    let n3 = length_pointer_bytes 3 a.size3 index3 in
    let n6 = length_pointer_bytes 6 a.size6 index6 in
    let f1 = filled_put (pointer_bytes 0 136 7) 10 26 f0 (length_pointer_bytes 0 136 7) refl c.put_pointer.ensures in
    let f2 = filled_put (pointer_bytes 1 a.size1 143) 10 36 f1 (length_pointer_bytes 1 a.size1 143) refl c.put_pointer-2.ensures in
    let second = rw c.index_if.ensures at c.put_pointer-3.ensures in
    let f3 = filled_put (pointer_bytes 2 a.size2 may) 10 46 f2 n2 refl second in
    let f4 = filled_put (pointer_bytes 3 a.size3 index3) 10 56 f3 n3 refl c.put_pointer-4.ensures in
    let f5 = filled_put (absents 4 2) 20 76 f4 (length_absents 4 2) refl c.put_absent.ensures in
    let f6 = filled_put (pointer_bytes 6 a.size6 index6) 10 86 f5 n6 refl c.put_pointer-5.ensures in
    let f7 = filled_put (absents 7 5) 50 136 f6 (length_absents 7 5) refl c.put_absent-2.ensures in
    let all = pointers_are a.part.now a.size1 a.size2 a.size3 a.size6 (omega arith) in
    f7.is ∙ ap (λ (x : List ℕ). take 16 a.part.now ++ x) all
