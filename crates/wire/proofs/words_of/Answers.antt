-- The sixteen words stand one behind another.
use mathlib.Core.Path.{refl}
use native.Mathlib.Omega.{arith}
use Rattle.wire.specs.InnerCheck.{words_in}
use Rattle.wire.proofs.Turns.{ahead, none}
use Rattle.wire.proofs.WordLaws.{from_whole}
use Rattle.wire.proofs.words_of.Goals as goal

pub returns : goal.returns
unfolding words_in
returns c =
    let stand =
    ahead 0 8 _ c.word.ensures refl (
    ahead 8 16 _ c.word-2.ensures refl (
    ahead 16 24 _ c.word-3.ensures refl (
    ahead 24 32 _ c.word-4.ensures refl (
    ahead 32 40 _ c.word-5.ensures refl (
    ahead 40 48 _ c.word-6.ensures refl (
    ahead 48 56 _ c.word-7.ensures refl (
    ahead 56 64 _ c.word-8.ensures refl (
    ahead 64 72 _ c.word-9.ensures refl (
    ahead 72 80 _ c.word-10.ensures refl (
    ahead 80 88 _ c.word-11.ensures refl (
    ahead 88 96 _ c.word-12.ensures refl (
    ahead 96 104 _ c.word-13.ensures refl (
    ahead 104 112 _ c.word-14.ensures refl (
    ahead 112 120 _ c.word-15.ensures refl (
    ahead 120 128 _ c.word-16.ensures refl (
    none c.args.s.now 128)))))))))))))))) in
    λ k. from_whole k _ 128 c.args.s.now (omega arith) (stand.is k)
