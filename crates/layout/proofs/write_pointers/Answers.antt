-- The pointers are the data, of an even number; the letters are put with header and check around them.
use mathlib.Core.Path.{◌≡◌, sym, ◌∙◌}
use native.Mathlib.Omega.{arith}
use lib.ListN.{take, drop}
use lib.Seq.{drop_at, length-take-le}
use Rattle.layout.specs.Layout.{letters, pointers_data}
use Rattle.layout.proofs.Laws.{sealed_is, evened_even, length_pointers_data}
use Rattle.layout.proofs.write_pointers.Goals as goal

pub returns : goal.returns
returns c =
    let a = c.args in
    let x = c.put_pointers.new.part in
    let pointers = pointers_data a.size1 a.size2 a.size3 a.size6 in
    let n = length_pointers_data a.size1 a.size2 a.size3 a.size6 in
    let head = length-take-le 16 a.part.now (omega arith) in
    let behind : drop 16 x ≡ pointers = rw c.put_pointers.ensures (drop_at (take 16 a.part.now) pointers 16 head) in
    let even = evened_even pointers (omega arith) in
    c.seal_with.ensures ∙ sealed_is 0 a.version letters x pointers (behind ∙ sym even) (omega arith)
