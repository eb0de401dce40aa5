-- The stream without Section 2, two bytes for each value: its bits counted, its bytes put. Assumes nothing.
use Prim.Native.Nat.{ℕ, zero, suc, ◌+◌, ◌*◌, ◌%◌, ◌≤◌, ◌<◌, min}
use mathlib.Core.Path.{◌≡◌, refl, sym, ap, ◌∙◌, subst}
use mathlib.Core.List.{List, [], ◌∷◌, ◌++◌, append_assoc}
use mathlib.Core.Logic.{◌⊎◌, inl, inr, ⊎_elim}
use mathlib.Core.Option.{none, some}
use native.Mathlib.Decide.{dec_lt}
use native.Mathlib.Omega.{arith}
use borrow.Author.Count.{below_more}
use lib.IntN.{ℤ, pos}
use lib.ListN.{length, get_or, take, drop}
use lib.Seq.{length-take-le, take_all}
use lib.Signed.{mag}
use Rattle.wire.specs.Numbers.{bytes_of}
use Rattle.wire.proofs.Laws.{put_next}
use Rattle.bits.specs.InnerRaised.{from_zero}
use Rattle.bits.proofs.Laws.{length_bits_in}
use Rattle.bits.proofs.Raised.{mag_inside, mag_outside}
use Rattle.tables.specs.declared.Structure.{Structure}
use Rattle.packing.specs.Packing.{packed, bytes_for}
use Rattle.packing.proofs.Laws.{Bytes, packed_whole}
use Rattle.shortest.specs.Shortest.{Shortest}
use Rattle.shortest.specs.InnerRule.{twos, plain_bytes, plain_bits}
use Rattle.shortest.proofs.Bridge.{unique}
use Rattle.shortest.proofs.Forms.{twos_lower}
use Rattle.shortest.proofs.Plain.{plain_shortest, plain_none, plain_more, length_plain_bytes}
use Rattle.encode.specs.InnerEncode.{Sized}

-- the first i values have 16 bits
abbrev pub Inside : List ℤ → ℕ → Type 0
Inside vs i = (k : ℕ) → k < i → mag (get_or vs k (pos 0)) < 32768

pub inside_more : (vs : List ℤ) (i x : ℕ) → from_zero 131072 x ≡ get_or vs i (pos 0) → 98304 ≤ x → x < 163840 → Inside vs i → Inside vs (i + 1)
inside_more vs i x e h l before = below_more (λ (k : ℕ). mag (get_or vs k (pos 0)) < 32768) i before (rw e at (mag_inside 131072 x 32768 (omega arith) (omega arith)))

length_plain : (vs : List ℤ) → length (plain_bits vs) ≡ length vs * 16
unfolding plain_bits
length_plain vs = omega (arith, length_bits_in (plain_bytes vs), length_plain_bytes vs)

pub plain_sized : (vs : List ℤ) (r : ℕ) → Inside vs (length vs) → r ≡ min 524281 (length vs * 16) → Sized [] vs r
plain_sized vs r h e = (some (plain_bits vs), plain_shortest vs h, e ∙ ap (λ (n : ℕ). min 524281 n) (sym (length_plain vs)))

pub plain_unsized : (vs : List ℤ) (i x : ℕ) → i < length vs → from_zero 131072 x ≡ get_or vs i (pos 0)
    → (x < 98304) ⊎ (163840 ≤ x) → Sized [] vs 524282
plain_unsized vs i x h e o =
    let outside : (x + 32768 < 131072) ⊎ (131072 + 32768 ≤ x) = ⊎_elim (λ l. inl (omega arith)) (λ l. inr (omega arith)) o in
    (none, plain_none vs i h (rw e at (mag_outside 131072 x 32768 outside)), refl)

-- the bytes of one value more
pub plain_put : (vs : List ℤ) (out₀ out : List ℕ) (i x n : ℕ) → i < length vs → from_zero 131072 x ≡ get_or vs i (pos 0) → n ≡ x % 65536
    → out ≡ plain_bytes (take i vs) ++ drop (i * 2) out₀
    → take (i * 2) out ++ (bytes_of 2 n ++ drop (i * 2 + 2) out) ≡ plain_bytes (take (i + 1) vs) ++ drop ((i + 1) * 2) out₀
plain_put vs out₀ out i x n h value bytes before =
    let p = plain_bytes (take i vs) in
    let v = get_or vs i (pos 0) in
    let long : length p ≡ i * 2 = length_plain_bytes (take i vs) ∙ rw (length-take-le i vs (omega arith)) in
    let own : n ≡ twos 16 v = bytes ∙ sym (twos_lower 16 x (omega arith)) ∙ ap (twos 16) value in
    let next : i * 2 + 2 ≡ (i + 1) * 2 = omega arith in
    let parts = append_assoc p (bytes_of 2 (twos 16 v)) (drop ((i + 1) * 2) out₀) in
    rw (before, put_next p (bytes_of 2 n) out₀ (i * 2) 2 long, plain_more vs i h, parts, ← own, next)

pub plain_start : (vs : List ℤ) (out : List ℕ) → out ≡ plain_bytes (take 0 vs) ++ drop (0 * 2) out
unfolding plain_bytes
plain_start vs out = refl

pub plain_all : (vs : List ℤ) (out₀ out : List ℕ) (i n : ℕ) → i ≡ n → length vs ≡ n → out ≡ plain_bytes (take i vs) ++ drop (i * 2) out₀
    → out ≡ plain_bytes vs ++ drop (n * 2) out₀
plain_all vs out₀ out i n e h all = all ∙ rw (take_all i vs (omega arith), e)

-- a stream for values without Section 2 is their bytes
plain_is : (vs : List ℤ) (bs : List ℕ) → Shortest [] vs bs → bs ≡ plain_bits vs
plain_is vs bs h = unique [] vs bs (plain_bits vs) h (plain_shortest vs (λ k l. go k l (dec_lt (mag (get_or vs k (pos 0))) 32768)))
  where
    go : (k : ℕ) → k < length vs → Dec (mag (get_or vs k (pos 0)) < 32768) → mag (get_or vs k (pos 0)) < 32768
    go k l (yes m) = m
    go k l (no m) = absurd (plain_none vs k l (omega arith) bs h.stream)

plain_bytes_lem : (vs : List ℤ) → Bytes (plain_bytes vs)
unfolding plain_bytes bytes_of
plain_bytes_lem [] i = omega arith
plain_bytes_lem (v ∷ vs) zero = omega arith
plain_bytes_lem (v ∷ vs) (suc zero) = omega arith
plain_bytes_lem (v ∷ vs) (suc (suc i)) = plain_bytes_lem vs i

pub plain_packed : (tables : List (List Structure)) (vs : List ℤ) (out out' bs : List ℕ) → tables ≡ [] → Shortest tables vs bs
    → out' ≡ plain_bytes vs ++ drop (length vs * 2) out → out' ≡ packed bs ++ drop (bytes_for (length bs)) out
unfolding plain_bits
plain_packed tables vs out out' bs z h e =
    let is : bs ≡ plain_bits vs = plain_is vs bs (rw z at h) in
    let many : bytes_for (length bs) ≡ length vs * 2 = omega (arith, ap length is, length_plain vs) in
    rw (many, is) (rw (packed_whole (plain_bytes vs) (plain_bytes_lem vs)) e)

-- fewer than the count stops at
sized_short : (tables : List (List Structure)) (vs : List ℤ) (r : ℕ) → r < 524281 → Sized tables vs r
    → (bs : List ℕ) × Shortest tables vs bs × (length bs ≡ r)
sized_short tables vs r h (none, f, e) = absurd (omega arith)
sized_short tables vs r h (some bs, f, e) = (bs, f, omega arith)

pub plain_room : (tables : List (List Structure)) (vs : List ℤ) (r room : ℕ) → tables ≡ [] → r < 524281 → Sized tables vs r
    → bytes_for r ≤ room → length vs * 2 ≤ room
plain_room tables vs r room z h s l =
    let b = sized_short [] vs r h (subst (λ (ts : List (List Structure)). Sized ts vs r) z s) in
    let is = plain_is vs b.0 b.1 in
    omega (arith, ap length is, length_plain vs, b.2)
