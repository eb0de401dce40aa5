-- The bytes of sections, pointers, data and the record, and how many they are. Assumes nothing.
use Prim.Native.Nat.{ℕ, zero, suc, ◌+◌, ◌-◌, ◌*◌, ◌%◌, ◌≤◌, ◌<◌}
use mathlib.Core.Path.{◌≡◌, refl, sym, ap, ◌∙◌}
use mathlib.Core.Bool.{Bool, true, false, cond}
use mathlib.Core.List.{List, [], ◌∷◌, ◌++◌, map, append_assoc, append-nil}
use native.Mathlib.Nat.{add-zero}
use native.Mathlib.Numerals.{add-one}
use native.Mathlib.Omega.{arith}
use borrow.Author.Tests.{eq-eqb, ne_eqb, eqb-true}
use lib.Dec.{eqb}
use lib.ListN.{length, get_or, replicate, take, drop, length-append, length-map, length-replicate, drop_of_length-le}
use lib.Seq.{take_at, drop_at}
use Rattle.wire.specs.Numbers.{bytes_of}
use Rattle.wire.specs.Check.{crc_of}
use Rattle.wire.proofs.Laws.{length_bytes_of}
use Rattle.layout.specs.Layout.{evened, section_length, checked, section_bytes, zero_reserved, letters}
use Rattle.layout.specs.Layout.{entries_of, leads_data, byte_counts_of, joined, streams_data}
use Rattle.layout.specs.Layout.{pointer_bytes, absent, pointers_data, section2_size, section2_bytes, record_size, record_bytes}
use Rattle.layout.specs.InnerCounts.{byte_counts}
use Rattle.layout.specs.InnerHeader.{headed}
use Rattle.layout.specs.InnerPointers.{absents}
use Rattle.layout.specs.InnerLeads.{entry_bytes}
use Rattle.layout.proofs.Filled.{Filled}

-- ---- a section

-- a part with header and check around the evened data is that section
pub sealed_is : (id version : ℕ) (reserved l contents : List ℕ) → drop 16 l ≡ evened contents → length l ≡ section_length (length contents)
    → checked (headed id (length l) version reserved (drop 16 l)) ≡ section_bytes id version reserved contents
unfolding section_bytes
sealed_is id version reserved l contents e n = rw (e, n)

-- data are put behind the header, and then their spare byte, as 0: they are there evened
pub spare_put : {l x y : List ℕ} {k : ℕ} (contents : List ℕ) → Filled l 16 contents k x → length x ≡ section_length (length contents)
    → y ≡ take k x ++ replicate (length x - k) 0 → drop 16 y ≡ evened contents
unfolding evened
spare_put {l} {x} {y} {k} contents f n e =
    let rest = replicate {A = ℕ} (length contents % 2) 0 in
    let p = take 16 l ++ contents in
    let size : length p ≡ k = length-append (take 16 l) contents ∙ omega (arith, f.start, f.size) in
    let front : take k x ≡ p = ap (take k) (f.is ∙ sym (append_assoc (take 16 l) contents (drop k l))) ∙ take_at p (drop k l) k size in
    let spare : length x - k ≡ length contents % 2 = omega (arith, f.size) in
    let whole : y ≡ take 16 l ++ (contents ++ rest) = e ∙ rw (front, spare) (append_assoc (take 16 l) contents rest) in
    ap (drop 16) whole ∙ drop_at (take 16 l) (contents ++ rest) 16 f.start

-- data of an even number need no spare byte
pub evened_even : (contents : List ℕ) → length contents % 2 ≡ 0 → evened contents ≡ contents
unfolding evened
evened_even contents h = rw h (append-nil contents)

pub length_checked : (body : List ℕ) → length (checked body) ≡ 2 + length body
unfolding checked
length_checked body = rw (length-append (bytes_of 2 (crc_of body)) body, length_bytes_of 2 (crc_of body))

pub length_section_bytes : (id version : ℕ) (reserved contents : List ℕ) → length reserved ≡ 6
    → length (section_bytes id version reserved contents) ≡ section_length (length contents)
unfolding section_bytes evened
length_section_bytes id version reserved contents h =
    rw (length_checked (headed id (section_length (length contents)) version reserved (evened contents)))
    (simp (length-append, length_bytes_of, length-replicate, h) (omega arith))

-- ---- pointers

pub length_pointer_bytes : (id size index : ℕ) → length (pointer_bytes id size index) ≡ 10
unfolding pointer_bytes
length_pointer_bytes id size index = simp (length-append, length_bytes_of)

pub length_absents : (id n : ℕ) → length (absents id n) ≡ 10 * n
unfolding absents
length_absents id zero = refl
length_absents id (suc n) =
    length-append (absent id) (absents (id + 1) n)
    ∙ omega (arith, length_pointer_bytes id 0 0, length_absents (id + 1) n)

absents_snoc : (id n : ℕ) → absents id (suc n) ≡ absents id n ++ absent (id + n)
unfolding absents
absents_snoc id zero = rw (add-zero id) (append-nil (absent id))
absents_snoc id (suc n) =
    let e : id + 1 + n ≡ id + suc n = omega arith in
    ap (λ (l : List ℕ). absent id ++ l) (absents_snoc (id + 1) n)
    ∙ rw e (sym (append_assoc (absent id) (absents (id + 1) n) (absent (id + suc n))))

-- the next one is put
pub absents_more : (from id : ℕ) → from ≤ id → absents from (id + 1 - from) ≡ absents from (id - from) ++ absent id
absents_more from id h =
    let next : id + 1 - from ≡ suc (id - from) = omega arith in
    let here : from + (id - from) ≡ id = omega arith in
    rw next (absents_snoc from (id - from) ∙ rw here)

-- Section 2's pointer, where the section may be absent
second_is : (size index : ℕ)
    → pointer_bytes 2 size (cond (eqb size 0) 0 index) ≡ cond (eqb size 0) (absent 2) (pointer_bytes 2 size index)
second_is zero index = refl
second_is (suc n) index = rw (ne_eqb (suc n) 0 (λ e. omega arith)) refl

-- the twelve, as they are put, are Section 0's data
pub pointers_are : (l : List ℕ) (size1 size2 size3 size6 : ℕ) → length l ≡ 136
    → pointer_bytes 0 136 7
    ++ pointer_bytes 1 size1 143
    ++ pointer_bytes 2 size2 (cond (eqb size2 0) 0 (143 + size1))
    ++ pointer_bytes 3 size3 (143 + size1 + size2)
    ++ absents 4 2
    ++ pointer_bytes 6 size6 (143 + size1 + size2 + size3)
    ++ absents 7 5
    ++ drop 136 l
    ≡ pointers_data size1 size2 size3 size6
unfolding pointers_data absents
pointers_are l size1 size2 size3 size6 n =
    rw (drop_of_length-le l {i = 136} (omega arith), second_is size2 (143 + size1)) (simp (append_assoc, append-nil))

pub length_pointers_data : (size1 size2 size3 size6 : ℕ) → length (pointers_data size1 size2 size3 size6) ≡ 120
unfolding pointers_data
length_pointers_data size1 size2 size3 size6 = rw (← second_is size2 (143 + size1)) (simp (length-append, length_pointer_bytes))

-- ---- the data of Section 3

pub length_entry_bytes : (first count id : ℕ) → length (entry_bytes first count id) ≡ 9
unfolding entry_bytes
length_entry_bytes first count id = simp (length-append, length_bytes_of)

entries_snoc : (fs cs is : List ℕ) (k : ℕ) → k < length fs → k < length cs → k < length is
    → entries_of (take (suc k) fs) (take (suc k) cs) (take (suc k) is)
    ≡ entries_of (take k fs) (take k cs) (take k is) ++ entry_bytes (get_or fs k 0) (get_or cs k 0) (get_or is k 0)
unfolding entries_of entry_bytes
entries_snoc [] cs is k hf hc hi = absurd (omega arith)
entries_snoc (f ∷ fs) [] is k hf hc hi = absurd (omega arith)
entries_snoc (f ∷ fs) (c ∷ cs) [] k hf hc hi = absurd (omega arith)
entries_snoc (f ∷ fs) (c ∷ cs) (i ∷ is) zero hf hc hi = refl
entries_snoc (f ∷ fs) (c ∷ cs) (i ∷ is) (suc k) hf hc hi =
    rw (entries_snoc fs cs is k (omega arith) (omega arith) (omega arith)) (simp append_assoc)

pub length_entries_of : (fs cs is : List ℕ) → length fs ≡ length cs → length is ≡ length cs → length (entries_of fs cs is) ≡ 9 * length cs
unfolding entries_of
length_entries_of [] [] is hf hi = refl
length_entries_of [] (c ∷ cs) is hf hi = absurd (omega arith)
length_entries_of (f ∷ fs) [] is hf hi = absurd (omega arith)
length_entries_of (f ∷ fs) (c ∷ cs) [] hf hi = absurd (omega arith)
length_entries_of (f ∷ fs) (c ∷ cs) (i ∷ is) hf hi =
    simp (length-append, length_bytes_of) (omega (arith, length_entries_of fs cs is (omega arith) (omega arith)))

pub length_leads_data : (flags : ℕ) (fs cs is : List ℕ) → length fs ≡ length cs → length is ≡ length cs
    → length (leads_data flags fs cs is) ≡ 2 + 9 * length cs
unfolding leads_data
length_leads_data flags fs cs is hf hi = omega (arith, length_entries_of fs cs is hf hi)

-- the next lead's entry is put
pub entries_more : (fs cs is : List ℕ) (k : ℕ) → k < length fs → k < length cs → k < length is
    → entries_of (take (k + 1) fs) (take (k + 1) cs) (take (k + 1) is)
    ≡ entries_of (take k fs) (take k cs) (take k is) ++ entry_bytes (get_or fs k 0) (get_or cs k 0) (get_or is k 0)
entries_more fs cs is k hf hc hi = rw (add-one k) (entries_snoc fs cs is k hf hc hi)

-- ---- the data of Section 6

counts_snoc : (ns : List ℕ) (k : ℕ) → k < length ns → byte_counts (take (suc k) ns) ≡ byte_counts (take k ns) ++ bytes_of 2 (get_or ns k 0)
unfolding byte_counts
counts_snoc [] k h = absurd (omega arith)
counts_snoc (n ∷ ns) zero h = append-nil (bytes_of 2 n)
counts_snoc (n ∷ ns) (suc k) h =
    ap (λ (l : List ℕ). bytes_of 2 n ++ l) (counts_snoc ns k (omega arith))
    ∙ sym (append_assoc (bytes_of 2 n) (byte_counts (take k ns)) (bytes_of 2 (get_or ns k 0)))

pub length_byte_counts : (ns : List ℕ) → length (byte_counts ns) ≡ 2 * length ns
unfolding byte_counts
length_byte_counts [] = refl
length_byte_counts (n ∷ ns) = simp (length-append, length_bytes_of) (omega (arith, length_byte_counts ns))

-- the next byte count is put
pub counts_more : (ns : List ℕ) (k : ℕ) → k < length ns → byte_counts (take (k + 1) ns) ≡ byte_counts (take k ns) ++ bytes_of 2 (get_or ns k 0)
counts_more ns k h = rw (add-one k) (counts_snoc ns k h)

-- those of the streams' lengths are the streams'
pub counts_are : (streams : List (List ℕ)) → byte_counts (map length streams) ≡ byte_counts_of streams
unfolding byte_counts byte_counts_of
counts_are [] = refl
counts_are (stream ∷ streams) = ap (λ (l : List ℕ). bytes_of 2 (length stream) ++ l) (counts_are streams)

pub length_byte_counts_of : (streams : List (List ℕ)) → length (byte_counts_of streams) ≡ 2 * length streams
length_byte_counts_of streams = rw (← counts_are streams, length_byte_counts (map length streams), length-map)

pub length_streams_data : (step interval order : ℕ) (streams : List (List ℕ))
    → length (streams_data step interval order streams) ≡ 6 + 2 * length streams + length (joined streams)
unfolding streams_data
length_streams_data step interval order streams = simp (length-append, length_bytes_of, length_byte_counts_of) (omega arith)

-- ---- Section 2, which may not be given

module _ (version : ℕ) (s2 : List ℕ) (h : length s2 ≡ 0) where
  pub given_none : (part : List ℕ) → length part ≡ section2_size (length s2) → part ≡ section2_bytes version s2
  unfolding section2_bytes
  given_none part e =
      rw (eq-eqb (length s2) 0 h) (drop_of_length-le part {i = 0} (omega (arith, rw (eq-eqb (length s2) 0 h) at e)))

module _ (version : ℕ) (s2 : List ℕ) (h : length s2 ≡ 0 → ⊥) where
  pub given_some : section_bytes 2 version zero_reserved s2 ≡ section2_bytes version s2
  unfolding section2_bytes
  given_some = rw (ne_eqb (length s2) 0 h)

-- its length
pub given_zero : (count : ℕ) → count ≡ 0 → 0 ≡ section2_size count
given_zero count h = rw (eq-eqb count 0 h)

pub given_sized : (count : ℕ) → (count ≡ 0 → ⊥) → section_length count ≡ section2_size count
given_sized count h = rw (ne_eqb count 0 h)

pub given_bounds : (count : ℕ) → (count ≤ section2_size count) × (section2_size count ≤ count + 17)
given_bounds count = go (eqb count 0) refl
  where
    go : (b : Bool) → eqb count 0 ≡ b → (count ≤ cond b 0 (section_length count)) × (cond b 0 (section_length count) ≤ count + 17)
    go true e = let z = eqb-true count 0 e in (omega arith, omega arith)
    go false e = (omega arith, omega arith)

pub length_section2_bytes : (version : ℕ) (contents : List ℕ) → length (section2_bytes version contents) ≡ section2_size (length contents)
unfolding section2_bytes
length_section2_bytes version [] = refl
length_section2_bytes version (b ∷ contents) =
    rw (ne_eqb (suc (length contents)) 0 (λ e. omega arith)) (length_section_bytes 2 version zero_reserved (b ∷ contents) refl)

-- ---- the record

pub length_record_bytes : (version : ℕ) (data1 data2 data3 data6 : List ℕ)
    → length (record_bytes version data1 data2 data3 data6) ≡ record_size (length data1) (length data2) (length data3) (length data6)
unfolding record_bytes
length_record_bytes version data1 data2 data3 data6 =
    let size1 = section_length (length data1) in
    let size2 = section2_size (length data2) in
    let size3 = section_length (length data3) in
    let size6 = section_length (length data6) in
    let pointers = pointers_data size1 size2 size3 size6 in
    let zeroth = length_section_bytes 0 version letters pointers refl ∙ ap section_length (length_pointers_data size1 size2 size3 size6) in
    length_checked _
    ∙ simp (
      length-append,
      length_bytes_of,
      zeroth,
      length_section_bytes 1 version zero_reserved data1 refl,
      length_section2_bytes version data2,
      length_section_bytes 3 version zero_reserved data3 refl,
      length_section_bytes 6 version zero_reserved data6 refl,
    ) (omega arith)
