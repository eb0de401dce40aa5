use mathlib.Core.Path.{sym, ap, ◌∙◌}
use Prim.Native.Nat.{ℕ}
use Rattle.wire.specs.Check.{crc_from, crc_of}
use Rattle.wire.specs.InnerCheck.{fed_all, words_in}
use Rattle.wire.proofs.Turns.{preset_word, preset_words}
use Rattle.wire.proofs.WordLaws.{from_behind}
use Rattle.wire.proofs.crc.Goals as goal

pub returns-then-s-lt-TURN : goal.returns-then-s-lt-TURN
unfolding crc_of
returns-then-s-lt-TURN c = c.by_words.ensures ∙ ap (λ (x : ℕ). crc_from x c.args.s.now) preset_word

pub loop-bytes-init : goal.loop-bytes-init
unfolding crc_of words_in
loop-bytes-init c = ap (λ (x : ℕ). crc_from x c.args.s.now) preset_words

pub loop-bytes-preserved : goal.loop-bytes-preserved
loop-bytes-preserved c = let l = c.loop-bytes in
    let got = c.in-Some.ensures.cases in
    let more = c.in-Some.more.now in
    let register = fed_all 0 (words_in l.x) in
    let after = fed_all register (words_in c.words_of.result) in
    ap (λ (x : ℕ). crc_from x more) c.turn-x.ensures
    ∙ ap (crc_from after) got.1
    ∙ sym (from_behind register after 128 l.rest.now (ap (crc_from register) (sym got.0) ∙ c.words_of.ensures register))
    ∙ l.invariant
