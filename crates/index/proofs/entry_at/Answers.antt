-- An entry is there, so its bytes are, and the numbers that the window shows are its own.
use Prim.Native.Nat.{ℕ, ◌+◌, ◌-◌, ◌*◌, ◌/◌, ◌%◌, ◌^◌, ◌≤◌}
use mathlib.Core.Path.{◌≡◌, ◌∙◌}
use native.Mathlib.Omega.{arith}
use lib.ListN.{length, drop, length-drop}
use Rattle.index.specs.Entry.{head_size, head_number}
use Rattle.index.proofs.Heads.{head_number_lem, entry_fits, step_shown}
use Rattle.index.proofs.entry_at.Goals as goal
use Rattle.index.proofs.entry_at.Goals.{After-after-size, After-head_at-w, Start}

-- all its bytes are there
fits : (c : Start) → let a = c.args in a.at + head_size + head_number (drop a.at a.s.now) 0 6 ≤ length a.s.now
fits c =
    let a = c.args in
    let t = drop a.at a.s.now in
    omega (arith, entry_fits t c.requires, length-drop a.at a.s.now)

pub head_at-w-requires : goal.head_at-w-requires
head_at-w-requires c = let h = fits (goal.at.head_at-w-requires c).Start in omega arith

pub overflow_add-start : goal.overflow_add-start
overflow_add-start c = let h = fits (goal.at.overflow_add-start c).Start in omega arith

-- a number that the window shows
number : (c : After-head_at-w) → let a = c.args in (p q x : ℕ) → p + q ≤ 40
    → x ≡ c.head_at-w.result * 2 ^ p % 2 ^ 64 / 2 ^ (64 - q) → x ≡ head_number (drop a.at a.s.now) p q
number c p q x h e =
    let a = c.args in
    let t = drop a.at a.s.now in
    e ∙ head_number_lem t c.head_at-w.result p q c.head_at-w.ensures (omega (arith, entry_fits t c.requires)) h

-- the first of them is the identifier's length
size : (c : After-after-size) → let a = c.args in c.after-size.result ≡ head_number (drop a.at a.s.now) 0 6
size c =
    let a = c.args in
    let t = drop a.at a.s.now in
    c.after-size.ensures ∙ head_number_lem t c.head_at-w.result 0 6 c.head_at-w.ensures (omega (arith, entry_fits t c.requires)) (omega arith)

pub overflow_add-result : goal.overflow_add-result
overflow_add-result c = let h = fits (goal.at.overflow_add-result c).Start in
    omega (arith, size (goal.at.overflow_add-result c).After-after-size)

pub returns : goal.returns
returns c =
    let a = c.args in
    rw (
      size (goal.at.returns c).After-after-size,
      number (goal.at.returns c).After-head_at-w 22 4 _ (omega arith) c.after.ensures,
      number (goal.at.returns c).After-head_at-w 26 5 _ (omega arith) c.after-2.ensures,
      number (goal.at.returns c).After-head_at-w 31 8 _ (omega arith) c.after-3.ensures,
      number (goal.at.returns c).After-head_at-w 6 16 _ (omega arith) c.after-4.ensures,
    )
    (step_shown a.s.now a.at c.requires)
