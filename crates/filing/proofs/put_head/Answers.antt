-- The forty bits fill five bytes, and nothing behind them is changed.
use Prim.Native.Nat.{ℕ}
use mathlib.Core.Path.{◌≡◌, ap, ◌∙◌}
use mathlib.Core.List.{List, ◌++◌}
use native.Mathlib.Omega.{arith}
use lib.ListN.{drop}
use Rattle.bits.specs.Bits.{high_first}
use Rattle.packing.specs.Packing.{packed}
use Rattle.packing.proofs.Sinks.{rest_later}
use Rattle.index.specs.Entry.{head_bits}
use Rattle.index.proofs.Heads.{head_length}
use Rattle.filing.specs.InnerFiling.{filed_as}
use Rattle.filing.proofs.Laws.{none_put}
use Rattle.filing.proofs.put_head.Goals as goal

pub put-s-requires-6 : goal.put-s-requires-6
put-s-requires-6 c = let z = none_put c.new.result c.new.ensures in (omega arith, omega arith, omega (arith, z))

pub end-requires : goal.end-requires
end-requires c = let z = none_put c.new.result c.new.ensures in omega (arith, z)

pub returns : goal.returns
unfolding head_bits high_first
returns c =
    let first = c.args.out.now in
    let e = filed_as c.args.entry in
    let z = none_put c.new.result c.new.ensures in
    let bits = c.put-s-6.ensures.0 _ (c.put-s-5.ensures.0 _ (c.put-s-4.ensures.0 _ (c.put-s-3.ensures.0 _ (c.put-s-2.ensures.0 _ (c.put-s.ensures.0 _ (c.new.ensures first)))))) in
    let rest : drop 5 c.put-s-6.new.out ≡ drop 5 first =
    rest_later c.put-s-6.result.at 5 c.put-s-6.new.out c.put-s-5.new.out (omega (arith, z)) c.put-s-6.ensures.2
    ∙ rest_later c.put-s-5.result.at 5 c.put-s-5.new.out c.put-s-4.new.out (omega (arith, z)) c.put-s-5.ensures.2
    ∙ rest_later c.put-s-4.result.at 5 c.put-s-4.new.out c.put-s-3.new.out (omega (arith, z)) c.put-s-4.ensures.2
    ∙ rest_later c.put-s-3.result.at 5 c.put-s-3.new.out c.put-s-2.new.out (omega (arith, z)) c.put-s-3.ensures.2
    ∙ rest_later c.put-s-2.result.at 5 c.put-s-2.new.out c.put-s.new.out (omega (arith, z)) c.put-s-2.ensures.2
    ∙ rest_later c.put-s.result.at 5 c.put-s.new.out first (omega (arith, z)) c.put-s.ensures.2 in
    c.end.ensures.0 (head_bits e) (rw (c.from.ensures, c.from-2.ensures, c.from-3.ensures, c.from-4.ensures) at bits)
    ∙ ap (λ (n : ℕ). packed (head_bits e) ++ drop n c.put-s-6.new.out) (head_length e)
    ∙ ap (λ (l : List ℕ). packed (head_bits e) ++ l) rest
