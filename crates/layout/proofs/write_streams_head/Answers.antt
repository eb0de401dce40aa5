-- Step, interval, difference order, bimodal and the byte counts are put one after another.
use Prim.Native.Nat.{◌+◌, ◌*◌}
use mathlib.Core.Path.{refl, ◌∙◌}
use mathlib.Core.List.{append_assoc}
use native.Mathlib.Omega.{arith}
use lib.ListN.{length, length-set}
use Rattle.layout.specs.InnerCounts.{byte_counts}
use Rattle.layout.proofs.Filled.{filled_from, filled_put, filled_number, filled_store}
use Rattle.layout.proofs.Laws.{length_byte_counts}
use Rattle.layout.proofs.write_streams_head.Goals as goal

pub returns : goal.returns
returns c =
    let c = c in
    let a = c.args in
    let ns = a.bytes.now in
    let n = length ns in
    let f1 = filled_number 2 a.step 18 (filled_from a.part.now 16 (omega arith)) refl c.put16.ensures in
    let f2 = filled_number 2 a.interval 20 f1 refl c.put16-2.ensures in
    let f3 = filled_store a.order 21 f2 (omega arith) refl in
    let f4 = filled_store 0 22 f3 (simp length-set (omega arith)) refl in
    let f5 = filled_put (byte_counts ns) (2 * n) (22 + 2 * n) f4 (length_byte_counts ns) refl c.put_counts.ensures in
    f5.is ∙ simp append_assoc
