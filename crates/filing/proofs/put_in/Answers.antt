-- What is in use behind the entry's place moves on, and the entry is written into the bytes that this leaves.
use Prim.Native.Nat.{ℕ, ◌+◌, ◌≤◌}
use mathlib.Core.Path.{◌≡◌, ap, ◌∙◌}
use native.Mathlib.Nat.{zero-add}
use native.Mathlib.Omega.{arith}
use lib.ListN.{length, take, length-take}
use Rattle.index.specs.Order.{before}
use Rattle.index.specs.Index.{entries_in}
use Rattle.filing.specs.Filing.{place_for, put_in}
use Rattle.filing.specs.InnerFiling.{filed_as}
use Rattle.filing.proofs.Laws.{put_between}
use Rattle.filing.proofs.put_in.Goals as goal

pub returns : goal.returns
unfolding put_in place_for before
returns c =
    let a = c.args in
    let own = c.size-size.ensures in
    let at = c.place_for-at.result in
    let fits : at ≤ a.used = omega (arith, c.place_for-at.ensures.within, length-take a.used a.lent.now) in
    let room : a.used + c.size-size.result ≤ length a.lent.now = omega (arith, own, c.requires.1) in
    let place : at ≡ place_for (filed_as a.entry) (entries_in (take a.used a.lent.now)) = c.place_for-at.ensures.place ∙ zero-add _ in (
      ap (λ (k : ℕ). a.used + k) own,
      rw (c.move_on.ensures, ← own, ← place, ← c.put_entry.ensures) (put_between a.lent.now c.put_entry.new.out at a.used c.size-size.result fits room),
    )
