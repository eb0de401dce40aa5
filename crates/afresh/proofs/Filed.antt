-- The entry that a record gives keeps the rules of an entry. Assumes nothing.
use Prim.Native.Nat.{ℕ, ◌+◌, ◌-◌, ◌*◌, ◌/◌, ◌%◌, ◌<◌}
use mathlib.Core.Path.{◌≡◌, refl}
use mathlib.Core.Bool.{Bool, true, false, not, ◌||◌, cond, and-eq-true_iff}
use mathlib.Core.List.{List, [], ◌∷◌, ◌++◌}
use native.Mathlib.Nat.{mod-eq_of_lt}
use native.Mathlib.Omega.{arith}
use borrow.Author.Tests.{le-leb, lt-ltb}
use lib.Dec.{leb, ltb}
use lib.ListN.{length, drop}
use Rattle.wire.specs.Bounds.{most_leads}
use Rattle.wire.specs.Numbers.{byte_at, number_at, bytes_of}
use Rattle.wire.specs.RuleWords.{are_bytes}
use Rattle.wire.proofs.Every.{every_cut}
use Rattle.pointers.specs.Pointers.{present, section_of}
use Rattle.record.specs.Opening.{opens}
use Rattle.fields.specs.Lookup.{part_start, part_size, field_place}
use Rattle.fields.specs.Recording.{field_of, identifier_of, year_of, month_of, day_of}
use Rattle.fields.proofs.Recording.{date_size, identified}
use Rattle.packing.proofs.Laws.{Bytes}
use Rattle.entries.specs.Section3.{lead_count, section3_right}
use Rattle.index.specs.Entry.{year_fits, entry_right}
use Rattle.filing.specs.Filing.{section3_kept, leads_of, entry_of, date_kept}
use Rattle.afresh.specs.Afresh.{filable}
use Rattle.index.proofs.Bytes.{byte_each}

-- there are up to 32 leads
leads_most : (r : List ℕ) → section3_kept r ≡ true → leb (leads_of r) most_leads ≡ true
unfolding section3_kept leads_of section3_right
leads_most r h = go (present r 3) h
  where
    go : (b : Bool) → (not b || section3_right (section_of r 3)) ≡ true → leb (cond b (lead_count (section_of r 3)) 0) most_leads ≡ true
    go false k = refl
    go true k =
        let n = lead_count (section_of r 3) in
        ((and-eq-true_iff (leb n most_leads) _).0 ((and-eq-true_iff (leb 1 n) _).0 k).1).0

-- a record's entry keeps the rules of an entry
pub filed_right : (r : List ℕ) → filable r ≡ true → entry_right (entry_of r) ≡ true
unfolding filable entry_right entry_of date_kept
filed_right r h =
    let a = (and-eq-true_iff (opens r) _).0 ((and-eq-true_iff (are_bytes r) _).0 h).1 in
    let b = (and-eq-true_iff (section3_kept r) _).0 a.1 in
    let id = identified r a.0 in
    rw (
      le-leb 1 (length (identifier_of r)) id.least,
      le-leb (length (identifier_of r)) 63 id.most,
      id.bytes,
      b.1,
      leads_most r b.0,
    )

-- the bytes of the date are bytes
field_bytes_lem : (r : List ℕ) → are_bytes r ≡ true → Bytes (field_of r 25)
unfolding field_of
field_bytes_lem r h =
    let start = part_start (field_place r 25 1) in
    let size = start + part_size (field_place r 25 1) - start in
    byte_each (field_of r 25) (every_cut (λ b. ltb b 256) size (drop start r) (every_cut (λ b. ltb b 256) start r h).1).0

-- the year has two of them, so it has room in the entry's 16 bits
pub filed_year : (r : List ℕ) → are_bytes r ≡ true → year_fits (entry_of r) ≡ true
unfolding entry_of number_at
filed_year r h = let byte = field_bytes_lem r h in lt-ltb (year_of r) 65536 (omega (arith, byte 0, byte 1))

-- four bytes are a number of two and two more
four_bytes : (d : List ℕ) → length d ≡ 4 → byte_at d 0 < 256 → byte_at d 1 < 256 → d ≡ bytes_of 2 (number_at 2 d 0) ++ (byte_at d 2 ∷ byte_at d 3 ∷ [])
unfolding number_at bytes_of
four_bytes [] e h k = absurd (omega arith)
four_bytes (a ∷ []) e h k = absurd (omega arith)
four_bytes (a ∷ b ∷ []) e h k = absurd (omega arith)
four_bytes (a ∷ b ∷ c ∷ []) e h k = absurd (omega arith)
four_bytes (a ∷ b ∷ c ∷ d ∷ []) e h k =
    let low : (a + (b + 0 * 256) * 256) % 256 ≡ a = omega arith in
    let above : (a + (b + 0 * 256) * 256) / 256 ≡ b = omega arith in
    let high : (a + (b + 0 * 256) * 256) / 256 % 256 ≡ b = rw above (mod-eq_of_lt k) in
    rw (low, high)
four_bytes (a ∷ b ∷ c ∷ d ∷ f ∷ l) e h k = absurd (omega arith)

-- the date that is filed is the one that field lookup shows
pub date_shown : (r : List ℕ) → are_bytes r ≡ true → opens r ≡ true
    → field_of r 25 ≡ bytes_of 2 (year_of r) ++ (month_of r ∷ day_of r ∷ [])
date_shown r h o = let byte = field_bytes_lem r h in four_bytes (field_of r 25) (date_size r o) (byte 0) (byte 1)
