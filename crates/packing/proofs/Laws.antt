-- Bits packed into bytes: how many, what they are read as, and that bytes come back. Assumes nothing.
use Prim.Native.Nat.{ℕ, zero, suc, ◌+◌, ◌-◌, ◌*◌, ◌/◌, ◌%◌, ◌^◌, ◌≤◌, ◌<◌}
use mathlib.Core.Path.{◌≡◌, refl, sym, ap, ap₂, ◌∙◌}
use mathlib.Core.List.{List, [], ◌∷◌, ◌++◌, append-nil, append_assoc}
use native.Mathlib.Nat.{zero-add, add-zero, suc-add, sub-zero, pow-suc, mul_assoc, mul_comm}
use native.Mathlib.Omega.{arith}
use lib.ListN.{length, get_or, take, drop, replicate, length-append, length-take, length-drop, replicate-append-replicate}
use lib.Pow.{high, low, field, shr-shr, mod-mod-pow}
use lib.Seq.{take-append-add}
use Rattle.bits.specs.Bits.{high_first, bits_in, number_after, number_of}
use Rattle.bits.proofs.Laws.{Small, small_take, small_drop, length_high_first, number_append, number_high, own_bits}
use Rattle.packing.specs.Packing.{packed_in, packed, bytes_for}

-- zeros behind bits or bytes are read as the places past their end are
pub zeros_behind : (s : List ℕ) (n j : ℕ) → get_or (s ++ replicate n 0) j 0 ≡ get_or s j 0
zeros_behind [] zero j = refl
zeros_behind [] (suc n) zero = refl
zeros_behind [] (suc n) (suc j) = zeros_behind [] n j
zeros_behind (b ∷ s) n zero = refl
zeros_behind (b ∷ s) n (suc j) = zeros_behind s n j

-- the lowest bits of a number are those of its remainder
pub high_low : (w m x : ℕ) → w ≤ m → high_first w (x % 2 ^ m) ≡ high_first w x
unfolding high_first
high_low zero m x h = refl
high_low (suc w) m x h =
    let d = m - suc w in
    let e : d + 1 + w ≡ m = omega arith in
    let first : x % 2 ^ m / 2 ^ w % 2 ≡ x / 2 ^ w % 2 = rw (← e, field x (d + 1) w) (mod-mod-pow (x / 2 ^ w) d 1) in
    ap₂ ◌∷◌ first (high_low w m x (omega arith))

-- the bits of a number are those of its upper part, and then the others
pub high_split : (j k x : ℕ) → high_first (j + k) x ≡ high_first j (x / 2 ^ k) ++ high_first k x
unfolding high_first
high_split zero k x = rw (zero-add k)
high_split (suc j) k x =
    let e : k + j ≡ j + k = omega arith in
    let first : x / 2 ^ (j + k) % 2 ≡ x / 2 ^ k / 2 ^ j % 2 = rw (shr-shr x k j, e) in
    rw (suc-add j k) (ap₂ ◌∷◌ first (high_split j k x))

-- the bits of a number with n bits w behind it
pub high_behind : (p n a w : ℕ) → w < 2 ^ n → high_first (p + n) (a * 2 ^ n + w) ≡ high_first p a ++ high_first n w
high_behind p n a w h =
    let x = a * 2 ^ n + w in
    let lower : high_first n x ≡ high_first n w = sym (high_low n n x (omega arith)) ∙ ap (high_first n) (low a n h) in
    high_split p n x ∙ ap₂ (λ (y : ℕ) (l : List ℕ). high_first p y ++ l) (high a n h) lower

-- each element of a list is a byte
abbrev pub Bytes : List ℕ → Type 0
Bytes l = (i : ℕ) → get_or l i 0 < 256

-- the first n of them are bytes
pub bytes_take : (n : ℕ) (l : List ℕ) → Bytes l → Bytes (take n l)
bytes_take zero l h i = omega arith
bytes_take (suc n) [] h i = omega arith
bytes_take (suc n) (b ∷ l) h zero = h 0
bytes_take (suc n) (b ∷ l) h (suc i) = bytes_take n l (λ j. h (suc j)) i

-- zeros behind a number move it up
number_zeros : (a k : ℕ) → number_after a (replicate k 0) ≡ a * 2 ^ k
unfolding number_after
number_zeros a zero = omega arith
number_zeros a (suc k) =
    number_zeros (a * 2 + 0) k ∙ rw (add-zero (a * 2), pow-suc 2 k, mul_assoc a 2 (2 ^ k), mul_comm 2 (2 ^ k))

-- some of the zeros
take_zeros : (k j : ℕ) → k ≤ j → take {A = ℕ} k (replicate j 0) ≡ replicate k 0
take_zeros zero j h = refl
take_zeros (suc k) zero h = absurd (omega arith)
take_zeros (suc k) (suc j) h = ap (λ (l : List ℕ). 0 ∷ l) (take_zeros k j (omega arith))

-- the first k bits, zeros where they run out, and the others with zeros behind are all of them with zeros behind
fill : (k m j : ℕ) (bs : List ℕ) → k ≤ j → length bs ≤ k + m
    → take k (bs ++ replicate j 0) ++ (drop k bs ++ replicate (m - length (drop k bs)) 0) ≡ bs ++ replicate (k + m - length bs) 0
fill zero m j bs g h = rw (zero-add m)
fill (suc k) m j [] g h = rw (sub-zero m, sub-zero (suc k + m), take_zeros (suc k) j g) (replicate-append-replicate {A = ℕ} (suc k) m 0)
fill (suc k) m j (b ∷ bs) g h =
    let e : suc k + m - suc (length bs) ≡ k + m - length bs = omega arith in
    rw e (ap (λ (l : List ℕ). b ∷ l) (fill k m j bs (omega arith) (omega arith)))

-- the eight bits of the first byte
length_first : (bs : List ℕ) → length (take 8 (bs ++ replicate 8 0)) ≡ 8
length_first bs = simp (length-take, length-append) (omega arith)

small_first : (bs : List ℕ) → Small bs → Small (take 8 (bs ++ replicate 8 0))
small_first bs h = small_take 8 (bs ++ replicate 8 0) (λ i. rw (zeros_behind bs 8 i) (h i))

-- packing into n bytes gives n bytes
length_in : (n : ℕ) (bs : List ℕ) → length (packed_in n bs) ≡ n
unfolding packed_in
length_in zero bs = refl
length_in (suc n) bs = ap suc (length_in n (drop 8 bs))

-- bits fill as many bytes as they need
pub length_packed : (bs : List ℕ) → length (packed bs) ≡ bytes_for (length bs)
unfolding packed
length_packed bs = length_in (bytes_for (length bs)) bs

read_in : (n : ℕ) (bs : List ℕ) → Small bs → length bs ≤ 8 * n → bits_in (packed_in n bs) ≡ bs ++ replicate (8 * n - length bs) 0
unfolding packed_in bits_in
read_in zero [] h g = refl
read_in zero (b ∷ bs) h g = absurd (omega arith)
read_in (suc n) bs h g =
    let first = take 8 (bs ++ replicate 8 0) in
    let own = own_bits first 8 (small_first bs h) (length_first bs) in
    let e : 8 * suc n ≡ 8 + 8 * n = omega arith in
    let rest = read_in n (drop 8 bs) (small_drop 8 bs h) (simp length-drop (omega arith)) in
    rw (own, rest, e) (fill 8 (8 * n) 8 bs (omega arith) (omega arith))

-- bits packed are read back, with the zeros that fill up the last byte
pub packed_read : (bs : List ℕ) → Small bs → bits_in (packed bs) ≡ bs ++ replicate (8 * bytes_for (length bs) - length bs) 0
unfolding packed
packed_read bs h = read_in (bytes_for (length bs)) bs h (omega arith)

-- a byte's bits are packed into the byte
packed_byte : (b : ℕ) (t : List ℕ) → b < 256 → packed (high_first 8 b ++ t) ≡ b ∷ packed t
unfolding packed packed_in high_first
packed_byte b t h =
    let l = high_first 8 b ++ t in
    let n : bytes_for (length l) ≡ suc (bytes_for (length t)) = omega arith in
    ap (λ (k : ℕ). packed_in k l) n ∙ ap (λ (x : ℕ). x ∷ packed t) (number_high 8 b h)

-- bits of bytes, and others behind them, are packed into the bytes, and what the others are packed into behind them
pub packed_front : (xs t : List ℕ) → Bytes xs → packed (bits_in xs ++ t) ≡ xs ++ packed t
unfolding bits_in
packed_front [] t h = refl
packed_front (b ∷ xs) t h =
    rw (append_assoc (high_first 8 b) (bits_in xs) t, packed_byte b (bits_in xs ++ t) (h 0), packed_front xs t (λ i. h (suc i)))

-- the bits of bytes are packed into the bytes
pub packed_whole : (xs : List ℕ) → Bytes xs → packed (bits_in xs) ≡ xs
unfolding packed packed_in
packed_whole xs h = ap packed (sym (append-nil (bits_in xs))) ∙ packed_front xs [] h ∙ append-nil xs

-- p bits, fewer than eight, are packed into one byte, moved up in it
pub packed_last : (p a : ℕ) → 0 < p → p < 8 → a < 2 ^ p → packed (high_first p a) ≡ a * 2 ^ (8 - p) ∷ []
unfolding packed packed_in
packed_last p a g h l =
    let t = high_first p a in
    let n : bytes_for (length t) ≡ 1 = rw (length_high_first p a) (omega arith) in
    let q : 8 ≡ length t + (8 - p) = rw (length_high_first p a) (omega arith) in
    let first : take 8 (t ++ replicate 8 0) ≡ t ++ replicate (8 - p) 0 =
    ap (λ (k : ℕ). take k (t ++ replicate 8 0)) q ∙ take-append-add t (replicate 8 0) (8 - p) ∙ rw (take_zeros (8 - p) 8 (omega arith)) in
    let x : number_of (take 8 (t ++ replicate 8 0)) ≡ a * 2 ^ (8 - p) =
    ap number_of first ∙ number_append 0 t (replicate (8 - p) 0) ∙ rw (number_high p a l) (number_zeros a (8 - p)) in
    rw n (ap (λ (y : ℕ). y ∷ []) x)
