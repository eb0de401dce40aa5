-- The window is on the bytes from the place on, the first five of which are asked for.
use Prim.Native.Nat.{ℕ, ◌+◌, ◌-◌}
use mathlib.Core.Path.{◌≡◌, ap, subst, ◌∙◌}
use mathlib.Core.List.{List}
use native.Mathlib.Omega.{arith}
use lib.ListN.{take, drop}
use Rattle.bits.specs.Bits.{bits_in}
use Rattle.bits.specs.InnerWindow.{Window}
use Rattle.index.proofs.Heads.{head_window}
use Rattle.index.proofs.head_at.Goals as goal

pub returns : goal.returns
returns c = let a = c.args in
    let t = drop a.at a.s.now in
    let eight : a.at + 8 - a.at ≡ 8 = omega arith in
    let bytes = c.part_of.ensures ∙ ap (λ (n : ℕ). take n t) eight in
    head_window t c.window.result (subst (λ (l : List ℕ). Window (bits_in l) c.window.result) bytes c.window.ensures)
