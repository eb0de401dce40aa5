-- The header's parts are put one after another, from the ID on, and the check is over them and all that follows.
use mathlib.Core.Path.{refl, ap, ◌∙◌}
use mathlib.Core.List.{append_assoc}
use native.Mathlib.Omega.{arith}
use lib.ListN.{length, length-set}
use Rattle.layout.specs.Layout.{checked}
use Rattle.layout.proofs.Filled.{filled_from, filled_put, filled_number, filled_store, filled_behind}
use Rattle.layout.proofs.seal_with.Goals as goal

pub returns : goal.returns
returns c =
    let c = c in
    let c = c in
    let a = c.args in
    let l = a.part.now in
    let six = c.requires.1 in
    let f1 = filled_number 2 a.id 4 (filled_from l 2 (omega arith)) refl c.put16.ensures in
    let f2 = filled_number 4 (length l) 8 f1 refl c.put32.ensures in
    let f3 = filled_store a.version 9 f2 (omega arith) refl in
    let f4 = filled_store a.version 10 f3 (simp length-set (omega arith)) refl in
    let f5 = filled_put a.reserved.now 6 16 f4 six refl (rw six at c.put_bytes.ensures) in
    c.put_check.ensures ∙ ap checked (filled_behind f5 ∙ simp append_assoc)
