-- A part of a record is read there as it is alone, its check too. Assumes nothing.
use Prim.Native.Nat.{ℕ, zero, suc, ◌+◌, ◌-◌, ◌≤◌}
use mathlib.Core.Path.{◌≡◌, refl, sym, ap, ◌∙◌}
use mathlib.Core.Bool.{true}
use mathlib.Core.List.{List, ◌++◌}
use native.Mathlib.Nat.{zero-add, add-zero, add_assoc}
use native.Mathlib.Omega.{arith}
use borrow.Author.Tests.{eq-eqb}
use lib.ListN.{length, take, drop, take-append-drop}
use lib.Seq.{length-take-le, drop-drop}
use Rattle.wire.specs.Numbers.{number_at, bytes_of, part}
use Rattle.wire.specs.Check.{crc_of}
use Rattle.wire.proofs.Laws.{length_bytes_of, crc_small}
use Rattle.wire.proofs.Places.{Stands, stands_part, stands_byte, stands_cut, stands_first, stands_behind, stands_whole}
use Rattle.wire.proofs.Places.{stands_at, stands_written}
use Rattle.record.specs.RecordRules.{holds_check}
use Rattle.layout.specs.Layout.{checked}
use Rattle.layout.proofs.Laws.{length_checked}

-- ---- a part of a record

module _ {r : List ℕ} {start : ℕ} {x : List ℕ} (s : Stands r start x) where
  -- its numbers
  pub stands_number : (w i : ℕ) → i + w ≤ length x → number_at w r (start + i) ≡ number_at w x i
  unfolding number_at
  stands_number zero i h = refl
  stands_number (suc w) i h =
      let later = rw (← add_assoc start i 1) at (stands_number w (i + 1) (omega arith)) in
      rw (stands_byte s i (omega arith), later)

  -- its check
  pub stands_check : 2 ≤ length x → holds_check r start (start + length x) ≡ holds_check x 0 (length x)
  unfolding holds_check
  stands_check h =
      let n = rw (add-zero start) at (stands_number 2 0 h) in
      rw (n, stands_cut s 2 (length x) h (omega arith), zero-add 2)

-- a part that is cut out is one
pub part_stands : (r : List ℕ) (a b : ℕ) → a ≤ b → b ≤ length r → Stands r a (part r a b)
part_stands r a b order inside =
    let e : a + (b - a) ≡ b = omega arith in
    let rest : drop (b - a) (drop a r) ≡ drop b r = drop-drop (b - a) a r ∙ ap (λ (n : ℕ). drop n r) e in
    let inner = sym (take-append-drop (b - a) (drop a r)) ∙ ap (λ (l : List ℕ). part r a b ++ l) rest in
    record {
      front = take a r;
      rest = drop b r;
      split = sym (take-append-drop a r) ∙ ap (λ (l : List ℕ). take a r ++ l) inner;
      place = length-take-le a r (omega arith);
    }

-- ---- bytes with their check in front

pub checked_body : (body : List ℕ) → Stands (checked body) 2 body
unfolding checked
checked_body body =
    stands_at (ap (λ (n : ℕ). n + 0) (length_bytes_of 2 (crc_of body))) (stands_behind (bytes_of 2 (crc_of body)) body (stands_whole body))

checked_first : (body : List ℕ) → Stands (checked body) 0 (bytes_of 2 (crc_of body))
unfolding checked
checked_first body = stands_first (bytes_of 2 (crc_of body)) body

-- they hold it
pub checked_holds : (body : List ℕ) → holds_check (checked body) 0 (length (checked body)) ≡ true
unfolding holds_check
checked_holds body =
    let l = checked body in
    let first = stands_written 2 (crc_of body) (crc_small body) (checked_first body) in
    let rest = rw (← length_checked body) at (stands_part (checked_body body)) in
    eq-eqb (number_at 2 l 0) (crc_of (part l 2 (length l))) (first ∙ ap crc_of (sym rest))
