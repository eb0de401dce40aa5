-- The sections of an accepted record fit: laid out again they make a record, which is never longer. Assumes nothing.
use Prim.Native.Nat.{ℕ, zero, suc, ◌+◌, ◌-◌, ◌*◌, ◌≤◌, ◌<◌}
use mathlib.Core.Path.{◌≡◌, refl, ap}
use mathlib.Core.Bool.{true, and-eq-true_iff}
use mathlib.Core.List.{List}
use mathlib.Core.Logic.{◌⊎◌, inl, inr}
use native.Mathlib.Nat.{add-zero}
use native.Mathlib.Omega.{arith}
use native.Mathlib.Decide.{dec_lt}
use borrow.Author.Tests.{leb-true, eqb-true, lt-ltb, eq-eqb}
use lib.Dec.{leb, eqb}
use lib.ListN.{length}
use Rattle.wire.specs.Numbers.{byte_at, number_at}
use Rattle.wire.specs.RuleWords.{all_in, every}
use Rattle.wire.proofs.Laws.{all_at, kept_first, unlike}
use Rattle.wire.specs.Bounds.{fewest_pointers, most_pointers}
use Rattle.pointers.specs.Pointers.{section0_length, count_of, id_of, length_of, present, start_of, end_of, section_of}
use Rattle.record.specs.RecordRules.{length_right, holds_check, record_check_right, letters_right, id_right, own_pointer_right, section0_right}
use Rattle.record.specs.RecordRules.{sections_apart, placed_right, all_placed_right, section_check_right, checks_right}
use Rattle.record.specs.Opening.{open_refusal}
use Rattle.sections.specs.Sections.{Section, nth, usable, total_length, size_for, rising, Fit, section_at, sections_from, sections_in}
use Rattle.sections.proofs.Disjoint.{lengths, Apart, lengths_most}
use Rattle.sections.proofs.Placed.{Placed, placed_cases, apart_never, length_section, section_usable}

-- ---- the sections of any record

pub length_sections : (r : List ℕ) (n k : ℕ) → length (sections_from r k n) ≡ n
unfolding sections_from
length_sections r zero k = refl
length_sections r (suc n) k = ap suc (length_sections r n (k + 1))

pub nth_section : (r : List ℕ) (n k j : ℕ) → j < n → nth (sections_from r k n) j ≡ section_at r (k + j)
unfolding sections_from
nth_section r zero k j h = absurd (omega arith)
nth_section r (suc n) k zero h = rw (add-zero k)
nth_section r (suc n) k (suc j) h =
    let e : k + 1 + j ≡ k + suc j = omega arith in
    rw e at (nth_section r n (k + 1) j (omega arith))

-- each is usable, so all are; IDs and lengths likewise
all_usable : (r : List ℕ) (n k : ℕ) → ((i : ℕ) → k ≤ i → i < k + n → usable (section_at r i) ≡ true)
    → every usable (sections_from r k n) ≡ true
unfolding every sections_from
all_usable r zero k h = refl
all_usable r (suc n) k h =
    rw (h k (omega arith) (omega arith)) (all_usable r n (k + 1) (λ i a b. h i (omega arith) (omega arith)))

all_rising : (r : List ℕ) (n k : ℕ) → 1 ≤ k → ((i : ℕ) → id_of r i < 65536)
    → ((i : ℕ) → k ≤ i → i < k + n → id_right r i ≡ true) → rising k (id_of r (k - 1)) (sections_from r k n) ≡ true
unfolding rising sections_from id_right
all_rising r zero k one small h = refl
all_rising r (suc n) k one small h =
    let e : k + 1 - 1 ≡ k = omega arith in
    let later = rw e at (all_rising r n (k + 1) (omega arith) small (λ i a b. h i (omega arith) (omega arith))) in
    rw (h k (omega arith) (omega arith), lt-ltb (id_of r k) 65536 (small k)) later

total_lengths : (r : List ℕ) (n k : ℕ) → ((i : ℕ) → k ≤ i → i < k + n → length (section_of r i) ≡ length_of r i)
    → total_length (sections_from r k n) ≡ lengths (start_of r) (end_of r) k n
unfolding total_length sections_from lengths
total_lengths r zero k h = refl
total_lengths r (suc n) k h =
    let later = total_lengths r n (k + 1) (λ i a b. h i (omega arith) (omega arith)) in
    let e : end_of r k - start_of r k ≡ length_of r k = omega arith in
    rw (later, e, h k (omega arith) (omega arith))

-- ---- an accepted record

-- its bytes are bytes, and it keeps rules 1, 3, 4 and 5
pub record Accepted (r : List ℕ) : Type 0 where
  pub byte : (i : ℕ) → byte_at r i < 256
  pub row1 : length_right r ≡ true
  pub row3 : section0_right r ≡ true
  pub row4 : all_placed_right r ≡ true
  pub row5 : checks_right r ≡ true

-- one that opens is accepted
pub opens_accepted : (r : List ℕ) → ((i : ℕ) → byte_at r i < 256) → open_refusal r ≡ 0 → Accepted r
unfolding open_refusal
opens_accepted r byte h =
    let a = kept_first (length_right r) 0 _ h in
    let b = kept_first (record_check_right r) 1 _ a.1 in
    let c = kept_first (section0_right r) 2 _ b.1 in
    let d = kept_first (all_placed_right r) 3 _ c.1 in
    let e = kept_first (checks_right r) 4 _ d.1 in
    record { byte = byte; row1 = a.0; row3 = c.0; row4 = d.0; row5 = e.0 }

module _ (r : List ℕ) (ok : Accepted r) where
  -- how many sections there are
  abbrev n : ℕ
  n = count_of r - 1

  id_small : (k : ℕ) → id_of r k < 65536
  unfolding number_at
  id_small k = omega (arith, ok.byte (22 + 10 * k), ok.byte (22 + 10 * k + 1))

  length_most : length r ≤ 1048576
  unfolding length_right
  length_most =
      let a = (and-eq-true_iff (leb 142 (length r)) _).0 ok.row1 in
      leb-true (length r) 1048576 ((and-eq-true_iff (leb (length r) 1048576) _).0 a.1).0

  count_most : count_of r ≤ most_pointers
  unfolding count_of
  count_most = omega arith

  -- rule 3, of the pointers
  zero_parts : (fewest_pointers ≤ count_of r) × (section0_length r ≡ 16 + 10 * count_of r) × (6 + section0_length r ≤ length r)
      × (all_in 0 (count_of r) (id_right r) ≡ true)
  unfolding section0_right
  zero_parts =
      let a = (and-eq-true_iff (eqb (number_at 2 r 8) 0) _).0 ok.row3 in
      let b = (and-eq-true_iff (letters_right r) _).0 a.1 in
      let c = (and-eq-true_iff (leb fewest_pointers (count_of r)) _).0 b.1 in
      let d = (and-eq-true_iff (eqb (section0_length r) (16 + 10 * count_of r)) _).0 c.1 in
      let e = (and-eq-true_iff (leb (6 + section0_length r) (length r)) _).0 d.1 in
      let f = (and-eq-true_iff (own_pointer_right r) _).0 e.1 in (
        leb-true fewest_pointers (count_of r) c.0,
        eqb-true (section0_length r) (16 + 10 * count_of r) d.0,
        leb-true (6 + section0_length r) (length r) e.0,
        f.1,
      )

  -- rules 4 and 5, of each section
  placed_parts : (present r 1 ≡ true) × (all_in 1 (count_of r) (placed_right r) ≡ true)
  unfolding all_placed_right
  placed_parts = (and-eq-true_iff (present r 1) (all_in 1 (count_of r) (placed_right r))).0 ok.row4

  case_of : (k : ℕ) → 1 ≤ k → k < count_of r → (length_of r k ≡ 0) ⊎ Placed r k
  case_of k a b = placed_cases r k (all_at (placed_right r) 1 (count_of r) placed_parts.1 k a b)

  check_of : (k : ℕ) → 1 ≤ k → k < count_of r → section_check_right r k ≡ true
  unfolding checks_right
  check_of k a b =
      all_at (section_check_right r) 1 (count_of r) ((and-eq-true_iff (holds_check r 6 (6 + section0_length r)) _).0 ok.row5).1 k a b

  -- no place is in two sections
  never_both : Apart (start_of r) (end_of r) 1 n
  never_both i j p a b c d e f g = go (case_of j (omega arith) (omega arith))
    where
      go : (length_of r j ≡ 0) ⊎ Placed r j → ⊥
      go (inl z) = absurd (omega (arith, z))
      go (inr q) = apart_never r j i p (all_at (sections_apart r j) 1 j q.apart i a b) d e f g

  -- each is behind Section 0 and inside the record
  within : (i : ℕ) → 1 ≤ i → i < 1 + n → start_of r i < end_of r i → (6 + section0_length r ≤ start_of r i) × (end_of r i ≤ length r)
  within i a b c = go (case_of i a (omega arith))
    where
      go : (length_of r i ≡ 0) ⊎ Placed r i → (6 + section0_length r ≤ start_of r i) × (end_of r i ≤ length r)
      go (inl z) = absurd (omega (arith, z))
      go (inr q) = (omega (arith, q.after), q.inside)

  -- so there is room for all of them behind Section 0
  total_most : 6 + section0_length r + total_length (sections_from r 1 n) ≤ length r
  total_most =
      let same = total_lengths r n 1 (λ i a b. length_section r i (case_of i a (omega arith))) in
      rw same
      (lengths_most (start_of r) (end_of r) n 1 (6 + section0_length r) (length r) zero_parts.2 never_both
      (λ i a b c. (within i a b c).0)
      (λ i a b c. (within i a b c).1))

  zero_own : id_of r 0 ≡ 0
  unfolding id_right
  zero_own =
      let z = zero_parts in
      eqb-true (id_of r 0) 0 (all_at (id_right r) 0 (count_of r) z.3 0 (omega arith) (omega (arith, z.0)))

  first_there : 0 < length_of r 1
  first_there = go (dec_lt 0 (length_of r 1))
    where
      go : Dec (0 < length_of r 1) → 0 < length_of r 1
      go (yes h) = h
      go (no h) = let t = rw (eq-eqb (length_of r 1) 0 (omega arith)) at placed_parts.0 in unlike cc

  pub sections_fit : Fit (sections_in r)
  unfolding sections_in size_for
  sections_fit =
      let l = length_sections r n 1 in
      let z = zero_parts in
      let below : (i : ℕ) → i < 1 + n → i < count_of r = λ i b. omega (arith, z.0) in
      let ids = all_rising r n 1 (omega arith) id_small (λ i a b. all_at (id_right r) 0 (count_of r) z.3 i (omega arith) (below i b)) in
      let one = ap (λ (s : Section). length s.bytes) (nth_section r n 1 0 (omega (arith, z.0))) in
      let size = length_section r 1 (case_of 1 (omega arith) (omega (arith, z.0))) in
      record {
        least = omega (arith, l, z.0);
        most = omega (arith, l, count_most, z.0);
        order = rw zero_own at ids;
        each = all_usable r n 1 (λ i a b. section_usable r i (case_of i a (below i b)) (check_of i a (below i b)));
        first = omega (arith, one, size, first_there);
        small = omega (arith, l, z.0, z.1, total_most, length_most);
      }
