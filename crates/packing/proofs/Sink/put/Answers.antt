use Prim.Native.Nat.{◌+◌, ◌*◌, ◌%◌, ◌^◌}
use mathlib.Core.Path.{◌≡◌, ◌∙◌}
use native.Mathlib.Omega.{arith}
use lib.ListN.{length-set}
use lib.Pow.{pow_mono}
use Rattle.packing.proofs.Sinks.{word_room, byte_more, byte_rest, put_all}
use Rattle.packing.proofs.Sink.put.Goals as goal

pub loop-part-preserved : goal.loop-part-preserved
loop-part-preserved c = let a = c.args in
    let l = c.loop-part in
    let b = c.low_byte.result in
    let x = a.self.acc * 2 ^ a.n % 18446744073709551616 + a.word in (
      omega arith,
      omega arith,
      length-set l.out l.at b ∙ l.invariant.2,
      byte_rest l.out a.out.now l.at b l.invariant.3,
      byte_more l.out l.at l.part x b (omega arith) (omega arith) c.low_byte.ensures ∙ l.invariant.4,
    )

pub returns : goal.returns
returns c = let a = c.args in
    let l = c.loop-part in
    let x = a.self.acc * 2 ^ a.n % 18446744073709551616 + a.word in
    let q = 1 * 2 ^ l.part % 18446744073709551616 in
    let room = word_room a.self.part a.n a.self.acc a.word (omega arith) (omega arith) (omega arith) (omega arith) in
    let ex : x ≡ a.self.acc * 2 ^ a.n + a.word = omega (arith, room) in
    let eq : q ≡ 2 ^ l.part = omega (arith, pow_mono {i = l.part} {j = 7} (omega arith)) in (
      λ bs h. put_all a.out.now l.out a.self l.at l.part a.word a.n x q bs h l.invariant.4 ex (omega arith) eq
          (omega arith) _ _,
      l.invariant.2,
      l.invariant.3,
      omega arith,
    )
