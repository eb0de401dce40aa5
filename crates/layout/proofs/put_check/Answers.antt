-- The part behind the check is all that follows it.
use Prim.Native.Nat.{ℕ, ◌-◌}
use mathlib.Core.Path.{ap, ◌∙◌}
use mathlib.Core.List.{◌++◌}
use native.Mathlib.Omega.{arith}
use lib.ListN.{length, drop, length-drop}
use lib.Seq.{take_all}
use Rattle.wire.specs.Numbers.{bytes_of}
use Rattle.wire.specs.Check.{crc_of}
use Rattle.layout.specs.Layout.{checked}
use Rattle.layout.proofs.put_check.Goals as goal

pub returns : goal.returns
unfolding checked
returns c = let l = c.args.part.now in
    let whole = take_all (length l - 2) (drop 2 l) (rw (length-drop 2 l) (omega arith)) in
    let check = c.crc-check.ensures ∙ ap crc_of whole in
    c.put16.ensures ∙ ap (λ (n : ℕ). bytes_of 2 n ++ drop 2 l) check
