use mathlib.Core.Path.{sym, ap, ◌∙◌}
use Prim.Native.Nat.{ℕ, ◌≤◌}
use native.Mathlib.Omega.{arith}
use lib.ListN.{length, length-take}
use Rattle.wire.specs.Check.{crc_from}
use Rattle.wire.specs.InnerCheck.{fed}
use Rattle.wire.proofs.WordLaws.{from_behind, from_whole}
use Rattle.wire.proofs.by_words.Goals as goal

pub loop-bytes-preserved : goal.loop-bytes-preserved
loop-bytes-preserved c = let l = c.loop-bytes in
    let got = c.in-Some.ensures.cases in
    let more = c.in-Some.more.now in
    let register = fed 8 0 l.v in
    let small : length c.in-Some.bytes.now ≤ 8 = rw got.0 (omega (arith, length-take 8 l.rest.now)) in
    let read = from_whole register (fed 8 register c.word.result) 8 c.in-Some.bytes.now small (c.word.ensures register) in
    ap (λ (x : ℕ). crc_from x more) c.next-v.ensures
    ∙ ap (crc_from (fed 8 register c.word.result)) got.1
    ∙ sym (from_behind register (fed 8 register c.word.result) 8 l.rest.now (ap (crc_from register) (sym got.0) ∙ read))
    ∙ l.invariant
