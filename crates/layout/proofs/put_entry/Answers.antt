-- First sample, last sample and ID are put one after another.
use Prim.Native.Nat.{◌+◌, ◌-◌}
use mathlib.Core.Path.{refl, ◌∙◌}
use mathlib.Core.List.{append_assoc}
use native.Mathlib.Omega.{arith}
use Rattle.layout.specs.InnerLeads.{entry_bytes}
use Rattle.layout.proofs.Filled.{filled_from, filled_number, filled_store}
use Rattle.layout.proofs.put_entry.Goals as goal

pub returns : goal.returns
unfolding entry_bytes
returns c =
    let a = c.args in
    let k = a.at in
    let f1 = filled_number 4 a.first (k + 4) (filled_from a.part.now k (omega arith)) refl c.put32.ensures in
    let f2 = filled_number 4 (a.first + a.count - 1) (k + 8) f1 (omega arith) c.put32-2.ensures in
    let f3 = filled_store a.id (k + 9) f2 (omega arith) (omega arith) in
    f3.is ∙ simp append_assoc
