-- The five bytes in front of an identifier, and when a whole entry by the rules is at the front of bytes. Assumes nothing.
use Prim.Native.Nat.{ℕ, ◌+◌, ◌-◌, ◌*◌, ◌/◌, ◌%◌, ◌^◌, ◌≤◌, ◌<◌}
use mathlib.Core.Path.{◌≡◌, refl, sym, ap, ◌∙◌}
use mathlib.Core.Bool.{Bool, true, false, not, ◌&&◌, and-false, and-true, and-eq-true_iff}
use mathlib.Core.List.{List, ◌++◌}
use native.Mathlib.Nat.{add_assoc}
use native.Mathlib.Omega.{arith}
use lib.Dec.{leb, eqb}
use lib.ListN.{length, take, drop, length-append, length-drop, take-append-drop}
use lib.Seq.{length-take-le, take-take, drop-drop}
use borrow.Author.Tests.{le-leb, lt-leb, leb-true, eqb-true}
use Rattle.wire.specs.Bounds.{most_leads}
use Rattle.wire.specs.Numbers.{byte_at}
use Rattle.wire.specs.RuleWords.{all_in, every}
use Rattle.wire.proofs.Every.{all_every}
use Rattle.bits.specs.Bits.{high_first, bits_in, number_of}
use Rattle.bits.specs.InnerWindow.{Window}
use Rattle.bits.proofs.Laws.{length_bits_in, small_bits_in, small_take, small_drop, number_small}
use Rattle.bits.proofs.Windows.{bits_before, window_after}
use Rattle.packing.specs.Packing.{packed}
use Rattle.packing.proofs.Laws.{length_packed}
use Rattle.index.specs.declared.IndexEntry.{IndexEntry}
use Rattle.index.specs.Entry.{Entry, head_bits, head_size, head_number, entry_in, zero_bit, date_right, entry_right, is_entry, entry_at}
use Rattle.index.specs.InnerSteps.{head_right}

-- the numbers of an entry take five bytes
pub head_length : (e : Entry) → length (packed (head_bits e)) ≡ head_size
unfolding head_bits high_first
head_length e = length_packed (head_bits e)

-- a byte of an identifier is not NUL
abbrev pub not_nul : ℕ → Bool
not_nul b = not (eqb b 0)

-- the bits of five bytes
pub head_bits_lem : (t : List ℕ) → head_size ≤ length t → length (bits_in (take head_size t)) ≡ 40
head_bits_lem t h = length_bits_in (take head_size t) ∙ ap (λ (n : ℕ). n * 8) (length-take-le head_size t h)

-- a window on eight bytes, or as many as there are, is one on them
pub head_window : (t : List ℕ) (w : ℕ) → Window (bits_in (take 8 t)) w → Window (bits_in (take head_size t)) w
head_window t w seen k h l =
    let first = take head_size t in
    let rest = drop head_size (take 8 t) in
    let whole : take 8 t ≡ first ++ rest =
    sym (take-append-drop head_size (take 8 t)) ∙ ap (λ (s : List ℕ). s ++ rest) (take-take head_size 8 t (omega arith)) in
    let longer : k ≤ length (bits_in (take 8 t)) =
    omega (arith, length_bits_in (take 8 t), length_bits_in first, ap length whole, length-append first rest) in
    seen k h longer ∙ ap number_of (ap (λ (s : List ℕ). take k (bits_in s)) whole ∙ bits_before first rest 0 k (omega arith))

-- a number that a window on them shows
pub head_number_lem : (t : List ℕ) (w p q : ℕ) → Window (bits_in (take head_size t)) w → head_size ≤ length t → p + q ≤ 40
    → w * 2 ^ p % 2 ^ 64 / 2 ^ (64 - q) ≡ head_number t p q
unfolding head_number
head_number_lem t w p q seen h g =
    window_after (bits_in (take head_size t)) w p q seen (small_bits_in (take head_size t)) (omega arith) (omega (arith, head_bits_lem t h))

-- it is below 2 to the number of its bits
pub head_small : (t : List ℕ) (p q : ℕ) → head_size ≤ length t → p + q ≤ 40 → head_number t p q < 2 ^ q
unfolding head_number
head_small t p q h g =
    let bs = bits_in (take head_size t) in
    let size = length-take-le q (drop p bs) (omega (arith, length-drop p bs, head_bits_lem t h)) in
    rw size at (number_small (take q (drop p bs)) (small_take q (drop p bs) (small_drop p bs (small_bits_in (take head_size t)))))

-- where all bytes are there, the identifier has as many as the first number says
pub identifier_length : (t : List ℕ) → head_size + head_number t 0 6 ≤ length t → length (entry_in t).identifier ≡ head_number t 0 6
unfolding entry_in
identifier_length t h = length-take-le (head_number t 0 6) (drop head_size t) (omega (arith, length-drop head_size t))

-- the rule on an identifier's bytes, asked place by place
pub nul_places : (s : List ℕ) (at n : ℕ) → at + head_size + n ≤ length s
    → all_in (at + head_size) (at + head_size + n) (λ i. not_nul (byte_at s i)) ≡ every not_nul (take n (drop head_size (drop at s)))
nul_places s at n h =
    let e : at + head_size + n - (at + head_size) ≡ n = omega arith in
    rw (drop-drop head_size at s)
    (all_every not_nul s (at + head_size) (at + head_size + n) h
    ∙ ap (λ (m : ℕ). every not_nul (take m (drop (at + head_size) s))) e)

-- the rules of an entry, those on the identifier's bytes last
last_nul : (z s n d l : Bool) → z && (s && (n && (d && l))) ≡ (s && (d && (l && z))) && n
last_nul false s n d l = simp and-false
last_nul true false n d l = refl
last_nul true true n false l = and-false n
last_nul true true n true false = and-false n
last_nul true true n true true = and-true n

-- so where all bytes are there, the numbers' rules and the identifier's bytes decide
pub entry_by : (t : List ℕ) → head_size + head_number t 0 6 ≤ length t
    → is_entry t
    ≡ head_right (head_number t 0 6) (head_number t 22 4) (head_number t 26 5) (head_number t 31 8) (head_number t 39 1)
    && every not_nul (take (head_number t 0 6) (drop head_size t))
unfolding is_entry entry_right entry_in head_right
entry_by t h =
    let n = head_number t 0 6 in
    rw (
      le-leb (head_size + n) (length t) h,
      identifier_length t h,
      le-leb n 63 (omega (arith, head_small t 0 6 (omega arith) (omega arith))),
    )
    (last_nul
    (eqb (head_number t 39 1) 0)
    (leb 1 n)
    (every not_nul (take n (drop head_size t)))
    (date_right (head_number t 22 4) (head_number t 26 5))
    (leb (head_number t 31 8) most_leads))

-- as numbers that are found to be its own, and as its bytes are asked
pub entry_asked : (t : List ℕ) (size month day leads last : ℕ) (free : Bool) → size ≡ head_number t 0 6 → month ≡ head_number t 22 4
    → day ≡ head_number t 26 5 → leads ≡ head_number t 31 8 → last ≡ head_number t 39 1 → head_size + size ≤ length t
    → free ≡ every not_nul (take size (drop head_size t)) → head_right size month day leads last && free ≡ is_entry t
entry_asked t size month day leads last free n m d l z fits f =
    rw (f, n, m, d, l, z) (sym (entry_by t (omega (arith, fits, n))))

-- where they are not, there is no entry
pub entry_cut : (t : List ℕ) → length t < head_size + head_number t 0 6 → is_entry t ≡ false
unfolding is_entry
entry_cut t h = rw (lt-leb (head_size + head_number t 0 6) (length t) h)

-- an entry's bytes are there
pub entry_fits : (t : List ℕ) → is_entry t ≡ true → head_size + head_number t 0 6 ≤ length t
unfolding is_entry
entry_fits t h =
    leb-true (head_size + head_number t 0 6) (length t)
    ((and-eq-true_iff (leb (head_size + head_number t 0 6) (length t)) (eqb (zero_bit t) 0 && entry_right (entry_in t))).0 h).0

-- its one bit is 0, and it keeps its rules
pub entry_kept : (t : List ℕ) → is_entry t ≡ true → (zero_bit t ≡ 0) × (entry_right (entry_in t) ≡ true)
unfolding is_entry
entry_kept t h =
    let a = (and-eq-true_iff (leb (head_size + head_number t 0 6) (length t)) _).0 h in
    let b = (and-eq-true_iff (eqb (zero_bit t) 0) _).0 a.1 in
    (eqb-true (zero_bit t) 0 b.0, b.1)

-- what a step shows where there is an entry
pub step_shown : (s : List ℕ) (at : ℕ) → is_entry (drop at s) ≡ true → let t = drop at s in
    ◌≡◌ {A = IndexEntry} (record {
      more = 1;
      month = head_number t 22 4;
      day = head_number t 26 5;
      leads = head_number t 31 8;
      year = head_number t 6 16;
      start = at + head_size;
      length = head_number t 0 6;
      next = at + head_size + head_number t 0 6;
    }) (entry_at s at)
unfolding entry_at entry_in
step_shown s at h =
    let t = drop at s in
    rw (h, identifier_length t (entry_fits t h), add_assoc at head_size (head_number t 0 6))
