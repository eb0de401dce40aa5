use mathlib.Core.Path.{sym, ap, ◌∙◌}
use Prim.Native.Nat.{ℕ, ◌+◌}
use native.Mathlib.Omega.{arith}
use lib.ListN.{drop}
use Rattle.wire.specs.Check.{crc_from}
use Rattle.wire.proofs.Laws.{from_more, from_done}
use Rattle.wire.proofs.by_bytes.Goals as goal

pub loop-b-preserved : goal.loop-b-preserved
loop-b-preserved c = let l = c.loop-b in
    let s = c.args.s.now in
    ap (λ (x : ℕ). crc_from x (drop (l.b-index + 1) s)) c.crc_byte-x.ensures ∙ sym (from_more l.x s l.b-index (omega arith)) ∙ l.invariant

pub returns : goal.returns
returns c = let l = c.loop-b in
    sym (from_done l.x c.args.s.now l.b-index (omega arith)) ∙ l.invariant
