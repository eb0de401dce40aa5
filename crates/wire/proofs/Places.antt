-- Parts that lie one behind another in a list of bytes, and what is read there. Assumes nothing.
use Prim.Native.Nat.{ℕ, zero, suc, ◌+◌, ◌-◌, ◌≤◌, ◌<◌, ◌^◌}
use mathlib.Core.Path.{◌≡◌, refl, sym, ap, ◌∙◌}
use mathlib.Core.Bool.{Bool, true, and-eq-true_iff}
use mathlib.Core.List.{List, [], ◌++◌, append_assoc, append-nil}
use native.Mathlib.Nat.{add_assoc}
use native.Mathlib.Omega.{arith}
use borrow.Author.Tests.{leb-true, le-leb}
use lib.Dec.{leb}
use lib.ListN.{length, take, drop, length-append, length-drop, get_or-append}
use lib.Seq.{get_or-append-add, drop-append-add, drop-append-le, take-append-le, drop_at, take_at, length-take-le}
use Rattle.wire.specs.Numbers.{byte_at, number_at, bytes_of, part}
use Rattle.wire.specs.RuleWords.{each, ends_by}
use Rattle.wire.proofs.Laws.{written_read}

-- what is cut out from the first place on
pub part_front : (s : List ℕ) (n : ℕ) → part s 0 n ≡ take n s
part_front s n = let e : n - 0 ≡ n = omega arith in rw e

-- a part that ends within s has all its bytes
pub part_length : (s : List ℕ) (from to : ℕ) → to ≤ length s → length (part s from to) ≡ to - from
part_length s from to h = length-take-le (to - from) (drop from s) (omega (arith, length-drop from s))

-- a part lies in r from a place on
pub record Stands (r : List ℕ) (start : ℕ) (x : List ℕ) : Type 0 where
  pub front : List ℕ
  pub rest : List ℕ
  pub split : r ≡ front ++ (x ++ rest)
  pub place : length front ≡ start

module _ {r : List ℕ} {start : ℕ} {x : List ℕ} (s : Stands r start x) where
  -- it is what is cut out there
  pub stands_part : part r start (start + length x) ≡ x
  stands_part =
      let e : start + length x - start ≡ length x = omega arith in
      rw (s.split, drop_at s.front (x ++ s.rest) start s.place, e) (take_at x s.rest (length x) refl)

  -- its bytes are read there
  pub stands_byte : (i : ℕ) → i < length x → byte_at r (start + i) ≡ byte_at x i
  stands_byte i h =
      rw (s.split, ← s.place) (get_or-append-add s.front (x ++ s.rest) i 0 ∙ get_or-append x s.rest 0 i h)

  -- what is cut out of it is cut out there
  pub stands_cut : (a b : ℕ) → a ≤ b → b ≤ length x → part r (start + a) (start + b) ≡ part x a b
  stands_cut a b h g =
      let e : start + b - (start + a) ≡ b - a = omega arith in
      let d : drop (start + a) (s.front ++ (x ++ s.rest)) ≡ drop a x ++ s.rest =
      rw (← s.place) (drop-append-add s.front (x ++ s.rest) a ∙ drop-append-le a x s.rest (omega arith)) in
      rw (s.split, e, d) (take-append-le (b - a) (drop a x) s.rest (omega (arith, length-drop a x)))

  -- it ends within r
  pub stands_end : start + length x ≤ length r
  stands_end =
      let e = ap length s.split in
      omega (arith, s.place, length-append s.front (x ++ s.rest), length-append x s.rest)

  -- a part of it lies further on
  pub stands_inner : {a : ℕ} {y : List ℕ} → Stands x a y → Stands r (start + a) y
  stands_inner {a} {y} t = record {
    front = s.front ++ t.front;
    rest = t.rest ++ s.rest;
    split = s.split
        ∙ rw (
          t.split,
          append_assoc s.front t.front (y ++ (t.rest ++ s.rest)),
          append_assoc t.front (y ++ t.rest) s.rest,
          append_assoc y t.rest s.rest,
        );
    place = rw (length-append s.front t.front, s.place, t.place);
  }

-- the parts of two lists one behind the other
pub stands_first : (x y : List ℕ) → Stands (x ++ y) 0 x
stands_first x y = record { front = []; rest = y; split = refl; place = refl }

pub stands_behind : (x y : List ℕ) {start : ℕ} {z : List ℕ} → Stands y start z → Stands (x ++ y) (length x + start) z
stands_behind x y {start} {z} s = record {
  front = x ++ s.front;
  rest = s.rest;
  split = rw (append_assoc x s.front (z ++ s.rest)) (ap (λ (l : List ℕ). x ++ l) s.split);
  place = rw (length-append x s.front, s.place);
}

pub stands_whole : (x : List ℕ) → Stands x 0 x
stands_whole x = record { front = []; rest = []; split = sym (append-nil x); place = refl }

-- the same place by another number
pub stands_at : {r : List ℕ} {a b : ℕ} {x : List ℕ} → a ≡ b → Stands r a x → Stands r b x
stands_at {r} {x = x} e s = rw e at s

-- a number that was written is read
pub stands_written : {r : List ℕ} {start : ℕ} (w n : ℕ) → n < 256 ^ w → Stands r start (bytes_of w n) → number_at w r start ≡ n
stands_written w n h s = rw (s.split, ← s.place) (written_read w n s.front s.rest h)

-- ---- bytes moved on

-- r shows from a place on what s shows, with at most one byte more behind it
pub record Moved (r : List ℕ) (start : ℕ) (s : List ℕ) : Type 0 where
  pub byte : (i : ℕ) → byte_at r (start + i) ≡ byte_at s i
  pub least : start + length s ≤ length r
  pub most : length r ≤ start + length s + 1

module _ {r : List ℕ} {start : ℕ} {s : List ℕ} (m : Moved r start s) where
  -- its numbers
  pub moved_number : (w i : ℕ) → number_at w r (start + i) ≡ number_at w s i
  unfolding number_at
  moved_number zero i = refl
  moved_number (suc w) i = let later = rw (← add_assoc start i 1) at (moved_number w (i + 1)) in rw (m.byte i, later)

  -- its end: no spare byte in s is at most one in r
  pub moved_end : (end : ℕ) → ends_by 0 s end ≡ true → ends_by 1 r (start + end) ≡ true
  unfolding ends_by
  moved_end end h =
      let w = (and-eq-true_iff (leb end (length s)) (leb (length s) (end + 0))).0 h in
      let low = leb-true end (length s) w.0 in
      let top = leb-true (length s) (end + 0) w.1 in
      rw (le-leb (start + end) (length r) (omega (arith, m.least)), le-leb (length r) (start + end + 1) (omega (arith, m.most)))

-- a rule of each number, moved on
pub each_moved : (start n k : ℕ) (p q : ℕ → Bool) → ((i : ℕ) → p (start + i) ≡ q i) → each n (start + k) p ≡ each n k q
unfolding each
each_moved start zero k p q h = refl
each_moved start (suc n) k p q h = rw (h k, add_assoc start k 1, each_moved start n (k + 1) p q h)
