-- Sixteen bits that are there are two bytes of the window, and two's complement makes the value of them; fewer give none.
use Prim.Native.Nat.{◌≤◌}
use mathlib.Core.Path.{◌≡◌, refl, ◌∙◌}
use native.Mathlib.Omega.{arith}
use borrow.Author.Tests.{le-leb, lt-leb}
use lib.ListN.{length, take, drop}
use lib.Seq.{drop-drop}
use Rattle.bits.specs.Bits.{bits_in, number_of}
use Rattle.bits.proofs.Windows.{window_after}
use Rattle.reading.specs.Reading.{read_plain}
use Rattle.reading.proofs.Cursors.{length_left, seen_left}
use Rattle.reading.proofs.Cursor.plain.Goals as goal
use Rattle.reading.proofs.Cursor.plain.Goals.{After-after}

-- the two bytes at the cursor
bytes : (c : After-after) →
    let a = c.args in
    let l = drop a.self.at (bits_in a.s.now) in
    (c.top.result ≡ number_of (take 8 l))
    × (c.after.result ≡ number_of (take 8 (drop 8 l)))
bytes c =
    let a = c.args in
    let l = drop a.self.at (bits_in a.s.now) in
    let w = c.window-w.result in
    let seen = seen_left a.s.now a.self.at w c.window-w.ensures in
    let n : 16 ≤ length l = omega (arith, length_left a.s.now a.self.at) in (
      c.top.ensures ∙ seen.window 8 (omega arith) (omega arith),
      c.after.ensures ∙ window_after l w 8 8 seen.window seen.small (omega arith) n,
    )

pub returns-then-s-self-lt16-clause-told : goal.returns-then-s-self-lt16-clause-told
unfolding read_plain
returns-then-s-self-lt16-clause-told c = let a = c.args in
    let l = drop a.self.at (bits_in a.s.now) in
    simp (lt-leb 16 (length l) (omega (arith, length_left a.s.now a.self.at)))

pub returns-clause-told : goal.returns-clause-told
unfolding read_plain
returns-clause-told c = let a = c.args in
    let l = bits_in a.s.now in
    let b = bytes (goal.at.returns-clause-told c).After-after in
    let n = length_left a.s.now a.self.at in
    rw (c.raised.ensures.0 15 refl, b.0, b.1, le-leb 16 (length (drop a.self.at l)) (omega arith), drop-drop 16 a.self.at l)
