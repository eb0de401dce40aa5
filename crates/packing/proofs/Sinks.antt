-- A sink's bits: bits put behind its own, byte by byte, and the bytes that they are in the end. Assumes nothing.
use Prim.Native.Nat.{ℕ, suc, ◌+◌, ◌-◌, ◌*◌, ◌/◌, ◌%◌, ◌^◌, ◌≤◌, ◌<◌}
use mathlib.Core.Path.{◌≡◌, sym, ap, ◌∙◌}
use mathlib.Core.List.{List, [], ◌∷◌, ◌++◌, append_assoc, append-nil}
use native.Mathlib.Numerals.{add-one}
use native.Mathlib.Omega.{arith}
use lib.ListN.{length, take, drop, set, length-append, take-append-drop}
use lib.Arith.{digits_lt}
use lib.Pow.{pow-add, shl_lt}
use lib.Seq.{take-suc-set, drop-set-lt, drop-drop, set_split, length-take-le}
use Rattle.bits.specs.Bits.{high_first, bits_in}
use Rattle.bits.proofs.Laws.{length_high_first, length_bits_in, bits_in_append, digits_room}
use Rattle.packing.specs.Packing.{packed_in, packed}
use Rattle.packing.specs.InnerSink.{Holds, bits_put}
use Rattle.packing.specs.declared.Sink.{Sink}
use Rattle.packing.proofs.Laws.{Bytes, bytes_take, high_low, high_split, high_behind, packed_front, packed_last}

-- fewer than eight bits and the n bits of a word behind them have room in 39
pub word_room : (p n a w : ℕ) → p < 8 → n ≤ 32 → a < 2 ^ p → w < 2 ^ n → a * 2 ^ n + w < 2 ^ 39
word_room p n a w hp hn ha hw = digits_room 2 (p + n) 39 (omega arith) (omega arith) (rw (pow-add 2 p n) (digits_lt ha hw))

-- the bits of the last byte, moved up, are a byte
pub last_room : (p a : ℕ) → p < 8 → a < 2 ^ p → a * 2 ^ (8 - p) < 256
last_room p a h l = let e : p + (8 - p) ≡ 8 = omega arith in rw e at (shl_lt p (8 - p) l)

-- a byte is written: eight of the bits that are left are in the bytes now
pub byte_more : (out : List ℕ) (at part x b : ℕ) → at < length out → 8 ≤ part → b ≡ x / 2 ^ (part - 8) % 256
    → bits_in (take (at + 1) (set out at b)) ++ high_first (part - 8) x ≡ bits_in (take at out) ++ high_first part x
unfolding bits_in
byte_more out at part x b h g e =
    let p = part - 8 in
    let whole : 8 + p ≡ part = omega arith in
    let own : high_first 8 b ++ high_first p x ≡ high_first part x =
    rw (e, high_low 8 8 (x / 2 ^ p) (omega arith)) (sym (high_split 8 p x) ∙ ap (λ (k : ℕ). high_first k x) whole) in
    rw (add-one at, take-suc-set out at b h, bits_in_append (take at out) (b ∷ []), append-nil (high_first 8 b))
    (append_assoc (bits_in (take at out)) (high_first 8 b) (high_first p x) ∙ ap (λ (l : List ℕ). bits_in (take at out) ++ l) own)

-- what two lists have alike from a place on they have from every later place on
pub rest_later : (n m : ℕ) (k l : List ℕ) → n ≤ m → drop n k ≡ drop n l → drop m k ≡ drop m l
rest_later n m k l h e = sym (later k) ∙ ap (drop (m - n)) e ∙ later l
  where
    later : (o : List ℕ) → drop (m - n) (drop n o) ≡ drop m o
    later o = let d : n + (m - n) ≡ m = omega arith in drop-drop (m - n) n o ∙ ap (λ (i : ℕ). drop i o) d

-- the bytes behind the byte stay
pub byte_rest : (out out₀ : List ℕ) (at b : ℕ) → drop at out ≡ drop at out₀ → drop (at + 1) (set out at b) ≡ drop (at + 1) out₀
byte_rest out out₀ at b e =
    drop-set-lt (at + 1) out at b (omega arith) ∙ rest_later at (at + 1) out out₀ (omega arith) e

-- no whole byte is left: the bits are those of before and the n bits of the word
pub put_all : (out₀ out : List ℕ) (s : Sink) (at part word n x q : ℕ) (bs : List ℕ) → Holds out₀ s bs
    → bits_in (take at out) ++ high_first part x ≡ bits_in (take s.at out₀) ++ high_first (s.part + n) x
    → x ≡ s.acc * 2 ^ n + word → word < 2 ^ n → q ≡ 2 ^ part → at ≤ length out → (few : part < 8) (fit : x % q < 2 ^ part)
    → Holds out (record { at = at; acc = x % q; part = part; open_byte = few; bits_fit = fit }) (bs ++ high_first n word)
put_all out₀ out s at part word n x q bs h e ex hw eq ha few fit = record {
  bits = rw (eq, high_low part part x (omega arith), e, ex, high_behind s.part n s.acc word hw)
      (sym (append_assoc (bits_in (take s.at out₀)) (high_first s.part s.acc) (high_first n word))
      ∙ ap (λ (l : List ℕ). l ++ high_first n word) h.bits);
  at = ha;
}

-- a sink's place says how many bits it holds
pub holds_length : (out : List ℕ) (s : Sink) (bs : List ℕ) → Holds out s bs → length bs ≡ bits_put s
holds_length out s bs h =
    let p = take s.at out in
    let t = high_first s.part s.acc in
    ap length (sym h.bits)
    ∙ rw (length-append (bits_in p) t, length_bits_in p, length_high_first s.part s.acc, length-take-le s.at out h.at)

module _ (out : List ℕ) (s : Sink) (bytes : Bytes out) (bs : List ℕ) (h : Holds out s bs) where
  -- the bytes written come first in what all bits are packed into
  front : packed bs ≡ take s.at out ++ packed (high_first s.part s.acc)
  front =
      ap packed (sym h.bits) ∙ packed_front (take s.at out) (high_first s.part s.acc) (bytes_take s.at out bytes)

  -- every bit is in a byte
  pub end_whole : s.part ≡ 0 → out ≡ packed bs ++ drop (length (packed bs)) out
  unfolding packed packed_in high_first
  end_whole e =
      let p = take s.at out in
      let all : packed bs ≡ p = front ∙ ap (λ (n : ℕ). p ++ packed (high_first n s.acc)) e ∙ append-nil p in
      rw (all, length-take-le s.at out h.at) (sym (take-append-drop s.at out))

  -- the last byte is written
  pub end_part : (b : ℕ) → 0 < s.part → s.at < length out → b ≡ s.acc * 2 ^ (8 - s.part)
      → set out s.at b ≡ packed bs ++ drop (length (packed bs)) out
  end_part b g l e =
      let p = take s.at out in
      let last : packed bs ≡ p ++ (b ∷ []) = front ∙ rw (packed_last s.part s.acc g s.open_byte s.bits_fit, e) in
      let n : length (p ++ (b ∷ [])) ≡ suc s.at = length-append p (b ∷ []) ∙ rw (length-take-le s.at out h.at) (add-one s.at) in
      rw (last, n) (set_split out s.at b l ∙ sym (append_assoc p (b ∷ []) (drop (suc s.at) out)))
