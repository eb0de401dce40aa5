-- The data are put, then their spare byte (`spare_put`); header and check are put around them.
use mathlib.Core.Path.{refl}
use Prim.Native.Nat.{◌+◌}
use native.Mathlib.Omega.{arith}
use lib.ListN.{length}
use Rattle.layout.proofs.Filled.{filled_from, filled_put}
use Rattle.layout.proofs.Laws.{spare_put}
use Rattle.layout.proofs.write_section.Goals as goal

pub returns : goal.returns
returns c =
    let c = c in
    let a = c.args in
    let s = a.contents.now in
    let f0 = filled_from a.part.now 16 (omega arith) in
    let f1 = filled_put s (length s) (16 + length s) f0 refl refl c.put_bytes.ensures in
    c.seal.ensures.by_index s (spare_put s f1 (omega arith) c.put_spare.ensures) (omega arith)
