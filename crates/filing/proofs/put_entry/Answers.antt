-- The numbers take the first five bytes, and the identifier all that are left.
use Prim.Native.Nat.{ℕ, ◌+◌, ◌-◌}
use mathlib.Core.Path.{◌≡◌, ap, ◌∙◌}
use mathlib.Core.List.{List, [], ◌++◌, append-nil}
use native.Mathlib.Omega.{arith}
use native.Mathlib.Nat.{le_refl}
use lib.ListN.{length, take, drop, length-append, length-drop, drop_of_length-le}
use lib.Seq.{take_at}
use borrow.Rule.Slice.PartMut.{post_of, Post-is}
use Rattle.packing.specs.Packing.{packed}
use Rattle.index.specs.Entry.{head_bits, entry_bytes}
use Rattle.index.proofs.Heads.{head_length}
use Rattle.filing.specs.InnerFiling.{filed_as}
use Rattle.filing.proofs.put_entry.Goals as goal

pub returns : goal.returns
unfolding entry_bytes
returns c =
    let id = c.args.entry.identifier.now in
    let e = filed_as c.args.entry in
    let head = packed (head_bits e) in
    let size = head_length e in
    let out = c.put_head.new.out in
    let first = c.put_head.ensures in
    let long : length out ≡ 5 + length id =
    ap length first ∙ omega (arith, length-append head (drop 5 c.args.out.now), size, length-drop 5 c.args.out.now, c.requires) in
    let front : take 5 out ≡ head = ap (take 5) first ∙ take_at head (drop 5 c.args.out.now) 5 size in
    let none : post_of 5 (length out - 5) out ≡ [] =
    Post-is 5 (length out) out (omega (arith, long)) ∙ drop_of_length-le out {i = length out} (le_refl _) in
    rw (c.copy.ensures, front, none) (ap (λ (l : List ℕ). head ++ l) (append-nil id))
