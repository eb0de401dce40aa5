-- The 64 bits from the byte of bit `at` on, moved up to that bit, have the next 57 bits at their top (`window_of`); near the end the
-- zeros behind the bytes leave the bits that are there as they are (`bits_before`).
use mathlib.Core.Path.{ap, ◌∙◌}
use mathlib.Core.List.{◌++◌}
use Prim.Native.Nat.{◌+◌, ◌/◌, ◌≤◌}
use native.Mathlib.Omega.{arith}
use lib.ListN.{length, replicate, length-append, length-drop}
use Rattle.bits.specs.Bits.{bits_in, number_of}
use Rattle.bits.proofs.Laws.{length_bits_in}
use Rattle.bits.proofs.Windows.{window_of, bits_before}
use Rattle.bits.proofs.window.Goals as goal

pub returns-then-s-i : goal.returns-then-s-i
returns-then-s-i c = let a = c.args in
    let s = a.s.now in
    let t = s ++ replicate 8 0 in
    let fits : a.at / 8 + 8 ≤ length t = simp length-append (omega arith) in
    λ k h g.
    let there : a.at + k ≤ length (bits_in s) = omega (arith, length-drop a.at (bits_in s), length_bits_in s) in
    window_of t a.at c.last_word.result k fits c.last_word.ensures h
    ∙ ap number_of (bits_before s (replicate 8 0) a.at k there)

pub returns : goal.returns
returns c = let a = c.args in
    λ k h g. window_of a.s.now a.at c.word.result k (omega arith) c.word.ensures h
