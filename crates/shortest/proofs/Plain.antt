-- Without Section 2 there is one stream for values of 16 bits, so it is the shortest; for others there is none. Assumes nothing.
use Prim.Native.Nat.{ℕ, zero, suc, ◌+◌, ◌*◌, ◌/◌, ◌%◌, ◌≤◌, ◌<◌}
use mathlib.Core.Path.{◌≡◌, refl, sym, ap, ◌∙◌}
use mathlib.Core.Bool.{Bool, true, false, cond}
use mathlib.Core.List.{List, [], ◌∷◌, ◌++◌, append-nil, append_assoc}
use mathlib.Core.Logic.{inl}
use native.Mathlib.Nat.{mod-eq_of_lt}
use native.Mathlib.Numerals.{add-one}
use native.Mathlib.Omega.{arith}
use borrow.Author.Tests.{le-leb, leb-true}
use lib.Dec.{leb}
use lib.IntN.{ℤ, pos}
use lib.ListN.{length, get_or, take, drop, length-append, length-drop, take-append-drop}
use lib.Seq.{take_at, drop_at, drop-drop, length-take-le, take-suc}
use lib.Signed.{mag}
use Rattle.wire.specs.Numbers.{bytes_of}
use Rattle.wire.proofs.Laws.{unlike}
use Rattle.bits.specs.Bits.{high_first, bits_in, number_of, signed}
use Rattle.bits.proofs.Laws.{Small, length_high_first, bits_in_append, small_behind, small_take}
use Rattle.bits.proofs.Laws.{small_drop, small_bits_in, number_small, number_high, own_bits}
use Rattle.reading.specs.Reading.{gave, stuck, read_plain, read_next}
use Rattle.reading.proofs.Laws.{gave_value, gave_table, gave_rest}
use Rattle.shortest.specs.Shortest.{ReadsTo, done, value, Shortest, NoStream}
use Rattle.shortest.specs.InnerRule.{twos, plain_bytes, plain_bits}
use Rattle.shortest.proofs.Laws.{twos_small, signed_twos, twos_signed, bits_small, small_bits}

-- ---- one value

-- the bits of a number in two bytes
two_bytes : (x : ℕ) → bits_in (bytes_of 2 x) ≡ high_first 8 (x % 256) ++ high_first 8 (x / 256 % 256)
unfolding bits_in bytes_of
two_bytes x = rw (append-nil (high_first 8 (x / 256 % 256)))

-- they are read to the value
pub plain_read : (t : ℕ) (v : ℤ) (bs : List ℕ) → mag v < 32768 → read_plain t (bits_in (bytes_of 2 (twos 16 v)) ++ bs) ≡ gave v t bs
unfolding read_plain
plain_read t v bs h =
    let x = twos 16 v in
    let a = high_first 8 (x % 256) in
    let b = high_first 8 (x / 256 % 256) in
    let la : length a ≡ 8 = length_high_first 8 (x % 256) in
    let lb : length b ≡ 8 = length_high_first 8 (x / 256 % 256) in
    let na : number_of a ≡ x % 256 = number_high 8 (x % 256) (omega arith) in
    let nb : number_of b ≡ x / 256 % 256 = number_high 8 (x / 256 % 256) (omega arith) in
    let whole : x % 256 + x / 256 % 256 * 256 ≡ x = omega (arith, twos_small 16 v) in
    let long : leb 16 (length (a ++ (b ++ bs))) ≡ true =
    le-leb 16 (length (a ++ (b ++ bs))) (simp length-append (omega arith)) in
    let rest : drop 16 (a ++ (b ++ bs)) ≡ bs =
    sym (drop-drop 8 8 (a ++ (b ++ bs))) ∙ ap (drop 8) (drop_at a (b ++ bs) 8 la) ∙ drop_at b bs 8 lb in
    rw (two_bytes x, append_assoc a b bs, long, take_at a (b ++ bs) 8 la, drop_at a (b ++ bs) 8 la, take_at b bs 8 lb, rest, na, nb, whole)
    (ap (λ (z : ℤ). gave z t bs) (signed_twos 15 v h))

-- the bytes of a number of two
bytes_back : (a b : ℕ) → a < 256 → b < 256 → ((a + b * 256) % 256 ≡ a) × ((a + b * 256) / 256 % 256 ≡ b)
bytes_back a b ha hb =
    let high : (a + b * 256) / 256 ≡ b = omega arith in
    (omega arith, rw high (mod-eq_of_lt hb))

-- a value that was read has 16 bits, and they are those that were read
pub record Taken (t : ℕ) (bs : List ℕ) (v : ℤ) (next : ℕ) (rest : List ℕ) : Type 0 where
  pub table : t ≡ next
  pub holds : mag v < 32768
  pub bits : bs ≡ bits_in (bytes_of 2 (twos 16 v)) ++ rest

pub plain_taken : (t : ℕ) (bs : List ℕ) (v : ℤ) (next : ℕ) (rest : List ℕ) → Small bs → read_plain t bs ≡ gave v next rest
    → Taken t bs v next rest
unfolding read_plain
plain_taken t bs v next rest small h = go (leb 16 (length bs)) refl h
  where
    go : (b : Bool) → leb 16 (length bs) ≡ b
        → cond b (gave (signed 16 (number_of (take 8 bs) + number_of (take 8 (drop 8 bs)) * 256)) t (drop 16 bs)) stuck ≡ gave v next rest
        → Taken t bs v next rest
    go true e g =
        let l = leb-true 16 (length bs) e in
        let k = take 8 bs in
        let m = take 8 (drop 8 bs) in
        let sk = small_take 8 bs small in
        let sm = small_take 8 (drop 8 bs) (small_drop 8 bs small) in
        let lk : length k ≡ 8 = length-take-le 8 bs (omega arith) in
        let lm : length m ≡ 8 = length-take-le 8 (drop 8 bs) (omega (arith, length-drop 8 bs)) in
        let a = number_of k in
        let b = number_of m in
        let x = a + b * 256 in
        let na : a < 256 = rw lk at (number_small k sk) in
        let nb : b < 256 = rw lm at (number_small m sm) in
        let own = twos_signed 15 x (omega arith) in
        let bytes = bytes_back a b na nb in
        let parts : k ++ (m ++ drop 16 bs) ≡ bs =
        ap (λ (z : List ℕ). k ++ (m ++ z)) (sym (drop-drop 8 8 bs)) ∙ ap (λ (z : List ℕ). k ++ z) (take-append-drop 8 (drop 8 bs))
        ∙ take-append-drop 8 bs in
        record {
          table = gave_table g;
          holds = rw (← gave_value g) own.1;
          bits = rw (
            ← gave_value g,
            ← gave_rest g,
            own.0,
            two_bytes x,
            bytes.0,
            bytes.1,
            own_bits k 8 sk lk,
            own_bits m 8 sm lm,
            append_assoc k m (drop 16 bs),
          )
              (sym parts);
        }
    go false e g = unlike cc

-- ---- all values

-- the first value's bytes come before the others'
plain_cons : (v : ℤ) (vs : List ℤ) → plain_bits (v ∷ vs) ≡ bits_in (bytes_of 2 (twos 16 v)) ++ plain_bits vs
unfolding plain_bits plain_bytes
plain_cons v vs = bits_in_append (bytes_of 2 (twos 16 v)) (plain_bytes vs)

plain_reads : (t : ℕ) (vs : List ℤ) → ((k : ℕ) → k < length vs → mag (get_or vs k (pos 0)) < 32768) → ReadsTo [] t (plain_bits vs) vs
unfolding read_next plain_bits bits_in plain_bytes
plain_reads t [] h = done
plain_reads t (v ∷ vs) h =
    rw (plain_cons v vs) (value (plain_read t v (plain_bits vs) (h 0 (omega arith))) (plain_reads t vs (λ k l. h (suc k) (omega arith))))

-- there is no other stream
pub plain_only : {t : ℕ} {bs : List ℕ} {vs : List ℤ} → Small bs → ReadsTo [] t bs vs → plain_bits vs ≡ bs
unfolding read_next plain_bits bits_in plain_bytes
plain_only small done = refl
plain_only small (value {table = t} {next = next} {bs = bs} {rest = rest} {v = v} {vs = vs} h r) =
    let w = plain_taken t bs v next rest small h in
    let word = bits_in (bytes_of 2 (twos 16 v)) in
    let others = plain_only (small_behind word rest (rw w.bits at small)) r in
    plain_cons v vs ∙ ap (λ (l : List ℕ). word ++ l) others ∙ sym w.bits

plain_holds : {t : ℕ} {bs : List ℕ} {vs : List ℤ} → Small bs → ReadsTo [] t bs vs → (k : ℕ) → k < length vs
    → mag (get_or vs k (pos 0)) < 32768
unfolding read_next
plain_holds small done k l = absurd (omega arith)
plain_holds small (value {table = t} {next = next} {bs = bs} {rest = rest} {v = v} h r) zero l = (plain_taken t bs v next rest small h).holds
plain_holds small (value {table = t} {next = next} {bs = bs} {rest = rest} {v = v} h r) (suc k) l =
    let w = plain_taken t bs v next rest small h in
    plain_holds (small_behind (bits_in (bytes_of 2 (twos 16 v))) rest (rw w.bits at small)) r k (omega arith)

-- values of 16 bits
pub plain_shortest : (vs : List ℤ) → ((k : ℕ) → k < length vs → mag (get_or vs k (pos 0)) < 32768) → Shortest [] vs (plain_bits vs)
unfolding plain_bits
plain_shortest vs h = record {
  stream = record { bits = small_bits (plain_bits vs) (small_bits_in (plain_bytes vs)); reads = plain_reads 1 vs h };
  fewest = λ other s. rw (plain_only (bits_small other s.bits) s.reads) (omega arith);
  smaller = λ other s e. inl (plain_only (bits_small other s.bits) s.reads);
}

-- a value outside them
pub plain_none : (vs : List ℤ) (k : ℕ) → k < length vs → 32768 ≤ mag (get_or vs k (pos 0)) → NoStream [] vs
plain_none vs k h g bs s = omega (arith, plain_holds (bits_small bs s.bits) s.reads k h)

-- ---- the bytes, written one value after another

pub length_plain_bytes : (vs : List ℤ) → length (plain_bytes vs) ≡ length vs * 2
unfolding plain_bytes bytes_of
length_plain_bytes [] = refl
length_plain_bytes (v ∷ vs) = omega (arith, length_plain_bytes vs)

pub plain_append : (us vs : List ℤ) → plain_bytes (us ++ vs) ≡ plain_bytes us ++ plain_bytes vs
unfolding plain_bytes
plain_append [] vs = refl
plain_append (u ∷ us) vs = rw (plain_append us vs) (sym (append_assoc (bytes_of 2 (twos 16 u)) (plain_bytes us) (plain_bytes vs)))

-- one value more
pub plain_more : (vs : List ℤ) (k : ℕ) → k < length vs
    → plain_bytes (take (k + 1) vs) ≡ plain_bytes (take k vs) ++ bytes_of 2 (twos 16 (get_or vs k (pos 0)))
unfolding plain_bytes
plain_more vs k h =
    let v = get_or vs k (pos 0) in
    rw (add-one k, take-suc vs k (pos 0) h, plain_append (take k vs) (v ∷ []))
    (ap (λ (l : List ℕ). plain_bytes (take k vs) ++ l) (append-nil (bytes_of 2 (twos 16 v))))
