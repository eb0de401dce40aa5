-- The numbers are those that the window shows; where a test fails there is no entry.
use Prim.Native.Nat.{ℕ, ◌+◌, ◌*◌, ◌/◌, ◌%◌, ◌^◌, ◌-◌, ◌≤◌}
use mathlib.Core.Path.{◌≡◌, sym, ◌∙◌}
use mathlib.Core.Bool.{Bool, ◌&&◌, and-false, and-true}
use native.Mathlib.Omega.{arith}
use lib.ListN.{length, drop, length-drop}
use Rattle.wire.specs.RuleWords.{all_in}
use Rattle.wire.specs.Numbers.{byte_at}
use borrow.Author.Tests.{leb-true}
use Rattle.index.specs.Entry.{head_number, is_entry}
use Rattle.index.specs.InnerSteps.{head_right}
use Rattle.index.proofs.Heads.{not_nul, head_number_lem, nul_places, entry_asked, entry_cut}
use Rattle.index.proofs.is_entry.Goals as goal
use Rattle.index.proofs.is_entry.Goals.{After-after-last, After-head_at-w, then-size-s, else-size-s}

-- a number that the window shows
number : (c : After-head_at-w) → let a = c.args in (p q x : ℕ) → p + q ≤ 40
    → x ≡ c.head_at-w.result * 2 ^ p % 2 ^ 64 / 2 ^ (64 - q) → x ≡ head_number (drop a.at a.s.now) p q
number c p q x h e =
    let a = c.args in
    e ∙ head_number_lem (drop a.at a.s.now) c.head_at-w.result p q c.head_at-w.ensures (omega (arith, length-drop a.at a.s.now)) h

-- where all bytes are there, the rules and the identifier's bytes decide
decided : (c : After-after-last) (free : Bool)
    → ((p q x : ℕ) → p + q ≤ 40 → x ≡ c.head_at-w.result * 2 ^ p % 2 ^ 64 / 2 ^ (64 - q) → x ≡ head_number (drop c.args.at c.args.s.now) p q)
    → let a = c.args in
    c.after-size.result ≤ length a.s.now - (a.at + 5)
    → free ≡ all_in (a.at + 5) (a.at + 5 + c.after-size.result) (λ i. not_nul (byte_at a.s.now i))
    → head_right c.after-size.result c.after-month.result c.after-day.result c.after-leads.result c.after-last.result && free
    ≡ is_entry (drop a.at a.s.now)
decided c free number fits f =
    let a = c.args in
    entry_asked (drop a.at a.s.now) _ _ _ _ _ free
    (number 0 6 _ (omega arith) c.after-size.ensures)
    (number 22 4 _ (omega arith) c.after-month.ensures)
    (number 26 5 _ (omega arith) c.after-day.ensures)
    (number 31 8 _ (omega arith) c.after-leads.ensures)
    (number 39 1 _ (omega arith) c.after-last.ensures)
    (omega (arith, fits, length-drop a.at a.s.now))
    (f ∙ nul_places a.s.now a.at c.after-size.result (omega (arith, fits)))

pub returns-then-saturating_sub-lt-HEAD_SIZE : goal.returns-then-saturating_sub-lt-HEAD_SIZE
returns-then-saturating_sub-lt-HEAD_SIZE c = let a = c.args in
    sym (entry_cut (drop a.at a.s.now) (omega (arith, length-drop a.at a.s.now)))

pub returns-then-no_nul : goal.returns-then-no_nul
returns-then-no_nul c =
    let places = goal.at.returns-then-no_nul c in
    c.head_right.ensures ∙ (elim c.if-size-s.branch [
      | then-size-s w ↦
          let free = sym w.value-is ∙ c.if-no_nul.true in
          sym (rw (free, and-true) at (sym (decided places.After-after-last w.no_nul.result (number places.After-head_at-w) w.if-size-s.true w.no_nul.ensures)))
      | else-size-s w ↦ absurd (omega (arith, leb-true _ _ (sym w.value-is ∙ c.if-no_nul.true), w.if-size-s.false))
    ])

pub returns-else-no_nul : goal.returns-else-no_nul
returns-else-no_nul c =
    let places = goal.at.returns-else-no_nul c in
    c.if-no_nul.false ∙ (elim c.if-size-s.branch [
      | then-size-s w ↦
          let free = sym w.value-is ∙ c.if-no_nul.false in
          sym (rw (free, and-false) at (sym (decided places.After-after-last w.no_nul.result (number places.After-head_at-w) w.if-size-s.true w.no_nul.ensures)))
      | else-size-s w ↦ sym (entry_cut (drop c.args.at c.args.s.now) (omega (
        arith,
        number places.After-head_at-w 0 6 _ (omega arith) c.after-size.ensures,
        w.if-size-s.false,
        length-drop c.args.at c.args.s.now,
      )))
    ])
