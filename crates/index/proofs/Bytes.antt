-- An entry's bytes, and back. Assumes nothing.
use Prim.Native.Nat.{ℕ, zero, suc, ◌+◌, ◌≤◌, ◌<◌}
use mathlib.Core.Path.{◌≡◌, refl, sym, ap, ◌∙◌}
use mathlib.Core.Bool.{Bool, true, false, not, ◌&&◌, cond, and-eq-true_iff}
use mathlib.Core.List.{List, [], ◌∷◌, ◌++◌, append_assoc, append-nil}
use native.Mathlib.Omega.{arith}
use borrow.Author.Tests.{leb-true, le-leb, ltb-true, lt-ltb}
use lib.Dec.{leb, eqb, ltb}
use lib.ListN.{length, take, drop, length-append, length-take, length-drop, take-append-drop}
use lib.Seq.{take_at, drop_at, take_all, take-add, drop-drop}
use Rattle.wire.specs.RuleWords.{every, are_bytes}
use Rattle.wire.proofs.Every.{every_parts, every_cut}
use Rattle.bits.specs.Bits.{high_first, bits_in, number_after, number_of}
use Rattle.bits.proofs.Laws.{Small, small_append, small_take, small_drop, small_high_first, small_bits_in, number_high, own_bits}
use Rattle.packing.specs.Packing.{packed}
use Rattle.packing.proofs.Laws.{Bytes, bytes_take, packed_read, packed_whole}
use Rattle.index.specs.Entry.{Entry, head_bits, entry_bytes, head_size, entry_size, head_number, entry_in, zero_bit, date_right, year_fits, entry_right, is_entry}
use Rattle.index.specs.Index.{index_bytes, bytes_in, entries_from, entries_in, is_index}
use Rattle.index.specs.InnerSteps.{Whole}
use Rattle.index.proofs.Heads.{head_length, head_bits_lem, head_small, identifier_length, entry_cut, entry_fits, entry_kept}
use Rattle.index.proofs.Walk.{entries_step, index_whole}

-- an entry has as many bytes as its size says
pub entry_length : (e : Entry) → length (entry_bytes e) ≡ entry_size e
unfolding entry_bytes
entry_length e = rw (length-append, head_length e)

-- and so have entries
pub index_length : (es : List Entry) → length (index_bytes es) ≡ bytes_in es
unfolding index_bytes bytes_in
index_length [] = refl
index_length (e ∷ es) = rw (length-append, entry_length e, index_length es)

-- the bytes of entries one behind another
pub index_append : (es fs : List Entry) → index_bytes (es ++ fs) ≡ index_bytes es ++ index_bytes fs
unfolding index_bytes
index_append [] fs = refl
index_append (e ∷ es) fs = rw (index_append es fs, append_assoc)

-- and how many these are
pub bytes_append : (es fs : List Entry) → bytes_in (es ++ fs) ≡ bytes_in es + bytes_in fs
unfolding bytes_in
bytes_append [] fs = omega arith
bytes_append (e ∷ es) fs = let h = bytes_append es fs in omega arith

-- ---- an entry from its bytes

-- the bounds on the numbers of an entry
record Right (e : Entry) : Type 0 where
  most : length e.identifier ≤ 63
  month : e.month ≤ 12
  day : e.day ≤ 31
  leads : e.leads ≤ 32

-- an entry that keeps its rules is within them
right : (e : Entry) → entry_right e ≡ true → Right e
unfolding entry_right date_right
right e h =
    let id = e.identifier in
    let a = (and-eq-true_iff (leb 1 (length id)) _).0 h in
    let b = (and-eq-true_iff (leb (length id) 63) _).0 a.1 in
    let c = (and-eq-true_iff (every (λ b. not (eqb b 0)) id) _).0 b.1 in
    let d = (and-eq-true_iff (leb 1 e.month && (leb e.month 12 && (leb 1 e.day && leb e.day 31))) _).0 c.1 in
    let f = (and-eq-true_iff (leb 1 e.month) _).0 d.0 in
    let g = (and-eq-true_iff (leb e.month 12) _).0 f.1 in
    let i = (and-eq-true_iff (leb 1 e.day) _).0 g.1 in
    record {
      most = leb-true (length id) 63 b.0;
      month = leb-true e.month 12 g.0;
      day = leb-true e.day 31 i.1;
      leads = leb-true e.leads 32 d.1;
    }

-- the bits of its numbers are 0 or 1
small_head : (e : Entry) → Small (head_bits e)
unfolding head_bits
small_head e =
    small_append (high_first 6 (length e.identifier)) _ (small_high_first 6 (length e.identifier))
    (small_append (high_first 16 e.year) _ (small_high_first 16 e.year)
    (small_append (high_first 4 e.month) _ (small_high_first 4 e.month)
    (small_append (high_first 5 e.day) _ (small_high_first 5 e.day)
    (small_append (high_first 8 e.leads) _ (small_high_first 8 e.leads) last))))
  where
    last : Small (0 ∷ [])
    last zero = omega arith
    last (suc i) = omega arith

-- they are read back from its first five bytes
head_read : (e : Entry) (rest : List ℕ) → bits_in (take head_size (entry_bytes e ++ rest)) ≡ head_bits e
unfolding entry_bytes head_bits high_first
head_read e rest =
    rw (append_assoc (packed (head_bits e)) e.identifier rest, take_at (packed (head_bits e)) (e.identifier ++ rest) 5 (head_length e))
    (packed_read (head_bits e) (small_head e) ∙ append-nil (head_bits e))

-- the numbers at the front of its bytes are those of its bits
number_read : (e : Entry) (rest : List ℕ) (from width : ℕ)
    → head_number (entry_bytes e ++ rest) from width ≡ number_of (take width (drop from (head_bits e)))
unfolding head_number
number_read e rest from width = rw (head_read e rest)

-- what stands behind its first five bytes
behind_head : (e : Entry) (rest : List ℕ) → drop head_size (entry_bytes e ++ rest) ≡ e.identifier ++ rest
unfolding entry_bytes
behind_head e rest =
    rw (append_assoc (packed (head_bits e)) e.identifier rest)
    (drop_at (packed (head_bits e)) (e.identifier ++ rest) 5 (head_length e))

-- an entry that keeps its rules, with any bytes behind its own
module _ (e : Entry) (rest : List ℕ) (h : entry_right e ≡ true) (y : e.year < 65536) where
  -- the first number is how many bytes its identifier has
  size_read : head_number (entry_bytes e ++ rest) 0 6 ≡ length e.identifier
  unfolding head_bits high_first
  size_read = let r = right e h in number_read e rest 0 6 ∙ number_high 6 (length e.identifier) (omega arith)

  -- the entry is read back
  entry_read : entry_in (entry_bytes e ++ rest) ≡ e
  unfolding entry_in head_bits high_first
  entry_read =
      let r = right e h in
      let year : head_number (entry_bytes e ++ rest) 6 16 ≡ e.year = number_read e rest 6 16 ∙ number_high 16 e.year y in
      let month : head_number (entry_bytes e ++ rest) 22 4 ≡ e.month = number_read e rest 22 4 ∙ number_high 4 e.month (omega arith) in
      let day : head_number (entry_bytes e ++ rest) 26 5 ≡ e.day = number_read e rest 26 5 ∙ number_high 5 e.day (omega arith) in
      let leads : head_number (entry_bytes e ++ rest) 31 8 ≡ e.leads = number_read e rest 31 8 ∙ number_high 8 e.leads (omega arith) in
      rw (size_read, behind_head e rest, take_at e.identifier rest (length e.identifier) refl, year, month, day, leads)

  -- and it keeps the rules there
  entry_back : (is_entry (entry_bytes e ++ rest) ≡ true) × (entry_in (entry_bytes e ++ rest) ≡ e)
  unfolding is_entry head_bits high_first number_after
  entry_back =
      let fits : head_size + length e.identifier ≤ length (entry_bytes e ++ rest) = rw (length-append, entry_length e) (omega arith) in
      let last : zero_bit (entry_bytes e ++ rest) ≡ 0 = number_read e rest 39 1 in
      let there = le-leb (head_size + length e.identifier) (length (entry_bytes e ++ rest)) fits in
      (rw (size_read, there, last, entry_read, h), entry_read)

-- ---- entries from their bytes

-- entries that keep their rules are read back
pub entries_back : (es : List Entry) → every entry_right es ≡ true → every year_fits es ≡ true → entries_in (index_bytes es) ≡ es
unfolding index_bytes
entries_back [] h y = rw (entries_step [], entry_cut [] (omega arith))
entries_back (e ∷ es) h y =
    let p = every_parts entry_right e es h in
    let q = every_parts year_fits e es y in
    let s = entry_bytes e ++ index_bytes es in
    let b = entry_back e (index_bytes es) p.0 (ltb-true e.year 65536 q.0) in
    rw (entries_step s, b.0, b.1, drop_at (entry_bytes e) (index_bytes es) (entry_size e) (entry_length e), entries_back es p.1 q.1)

-- ---- bytes from the entries that they hold

-- numbers that are bytes, place by place
pub byte_each : (s : List ℕ) → are_bytes s ≡ true → Bytes s
byte_each [] h i = omega arith
byte_each (b ∷ s) h zero = ltb-true b 256 (every_parts (λ b. ltb b 256) b s h).0
byte_each (b ∷ s) h (suc i) = byte_each s (every_parts (λ b. ltb b 256) b s h).1 i

-- a part of a list, and what is behind it
part_on : (from width : ℕ) (l : List ℕ) → take width (drop from l) ++ drop (from + width) l ≡ drop from l
part_on from width l = rw (← drop-drop width from l) (take-append-drop width (drop from l))

-- the bits of the first five bytes, where a whole entry is at the front
module _ (s : List ℕ) (h : is_entry s ≡ true) where
  -- there are forty
  bits_length : length (bits_in (take head_size s)) ≡ 40
  bits_length = head_bits_lem s (omega (arith, entry_fits s h))

  -- as many of them as are asked for
  part_length : (from width : ℕ) → from + width ≤ 40 → length (take width (drop from (bits_in (take head_size s)))) ≡ width
  part_length from width g = simp (length-take, length-drop) (omega (arith, bits_length))

  -- each of them 0 or 1
  part_small : (from width : ℕ) → Small (take width (drop from (bits_in (take head_size s))))
  part_small from width = small_take width _ (small_drop from _ (small_bits_in (take head_size s)))

  -- the bits of a number are those that it was read from
  part_bits : (from width : ℕ) → from + width ≤ 40
      → high_first width (head_number s from width) ≡ take width (drop from (bits_in (take head_size s)))
  unfolding head_number
  part_bits from width g = own_bits _ width (part_small from width) (part_length from width g)

  -- the last is 0, so it is the one that an entry's bits end with
  last_bits : 0 ∷ [] ≡ drop 39 (bits_in (take head_size s))
  unfolding high_first
  last_bits =
      let l = drop 39 (bits_in (take head_size s)) in
      let one : length l ≤ 1 = rw length-drop (omega (arith, bits_length)) in
      ap (high_first 1) (sym (entry_kept s h).0) ∙ part_bits 39 1 (omega arith) ∙ take_all 1 l one

  -- together they are those of the entry's numbers
  head_own : head_bits (entry_in s) ≡ bits_in (take head_size s)
  unfolding head_bits entry_in
  head_own =
      let l = bits_in (take head_size s) in
      rw (
        identifier_length s (entry_fits s h),
        part_bits 0 6 (omega arith),
        part_bits 6 16 (omega arith),
        part_bits 22 4 (omega arith),
        part_bits 26 5 (omega arith),
        part_bits 31 8 (omega arith),
        last_bits,
        part_on 31 8 l,
        part_on 26 5 l,
        part_on 22 4 l,
        part_on 6 16 l,
        part_on 0 6 l,
      )

-- the bytes of the entry at the front are those that it was read from
entry_bytes_back : (s : List ℕ) → are_bytes s ≡ true → is_entry s ≡ true → entry_bytes (entry_in s) ≡ take (entry_size (entry_in s)) s
unfolding entry_bytes entry_in
entry_bytes_back s b h =
    rw (
      head_own s h,
      packed_whole (take head_size s) (bytes_take head_size s (byte_each s b)),
      identifier_length s (entry_fits s h),
    )
    (sym (take-add head_size (head_number s 0 6) s))

-- so are those of entries
back_from : (n : ℕ) (s : List ℕ) → are_bytes s ≡ true → index_bytes (entries_from n s) ≡ take (bytes_in (entries_from n s)) s
unfolding entries_from index_bytes bytes_in
back_from zero s b = refl
back_from (suc n) s b =
    let k = entry_size (entry_in s) in
    go (is_entry s) refl (back_from n (drop k s) (every_cut (λ b. ltb b 256) k s b).1)
  where
    go : (t : Bool) → is_entry s ≡ t
        → index_bytes (entries_from n (drop (entry_size (entry_in s)) s))
        ≡ take (bytes_in (entries_from n (drop (entry_size (entry_in s)) s))) (drop (entry_size (entry_in s)) s)
        → index_bytes (cond t (entry_in s ∷ entries_from n (drop (entry_size (entry_in s)) s)) [])
        ≡ take (bytes_in (cond t (entry_in s ∷ entries_from n (drop (entry_size (entry_in s)) s)) [])) s
    go false e later = refl
    go true e later = rw (entry_bytes_back s b e, later) (sym (take-add (entry_size (entry_in s)) _ s))

-- where entries take up all bytes from a place on, these are the entries' bytes
pub whole_bytes : (s : List ℕ) (at : ℕ) → are_bytes s ≡ true → Whole s at → index_bytes (entries_in (drop at s)) ≡ drop at s
unfolding entries_in
whole_bytes s at b w =
    let t = drop at s in
    back_from (length t) t (every_cut (λ b. ltb b 256) at s b).1 ∙ take_all (bytes_in (entries_in t)) t (omega (arith, w, length-drop at s))

-- so an index is the bytes of its entries
pub bytes_back : (s : List ℕ) → are_bytes s ≡ true → is_index s ≡ true → index_bytes (entries_in s) ≡ s
bytes_back s b h = whole_bytes s 0 b (index_whole s h)

-- ---- the rules of the entries that bytes hold

-- the entries of bytes keep a rule that each at the front of bytes keeps
entries_keep : (rule : Entry → Bool) → ((s : List ℕ) → is_entry s ≡ true → rule (entry_in s) ≡ true) → (n : ℕ) (s : List ℕ)
    → every rule (entries_from n s) ≡ true
unfolding entries_from every
entries_keep rule front zero s = refl
entries_keep rule front (suc n) s = go (is_entry s) refl (entries_keep rule front n (drop (entry_size (entry_in s)) s))
  where
    go : (t : Bool) → is_entry s ≡ t → every rule (entries_from n (drop (entry_size (entry_in s)) s)) ≡ true
        → every rule (cond t (entry_in s ∷ entries_from n (drop (entry_size (entry_in s)) s)) []) ≡ true
    go false e later = refl
    go true e later = rw (front s e) later

-- the rules of an entry
pub entries_right : (s : List ℕ) → every entry_right (entries_in s) ≡ true
unfolding entries_in
entries_right s = entries_keep entry_right (λ t h. (entry_kept t h).1) (length s) s

-- and that its year has room
pub years_fit : (s : List ℕ) → every year_fits (entries_in s) ≡ true
unfolding entries_in entry_in
years_fit s =
    entries_keep year_fits
    (λ t h. lt-ltb (head_number t 6 16) 65536 (head_small t 6 16 (omega (arith, entry_fits t h)) (omega arith)))
    (length s) s
