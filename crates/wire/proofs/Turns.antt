-- Sixteen words: the first of seventeen goes, and is added to three behind it; the register stays. Assumes nothing.
use mathlib.Core.Path.{◌≡◌, refl, sym, ap, ◌∙◌}
use mathlib.Core.List.{List, [], ◌∷◌}
use Prim.Native.Nat.{ℕ, zero, suc, ◌+◌, ◌*◌, ◌<◌}
use native.Mathlib.Omega.{arith}
use lib.ListN.{length, drop}
use lib.Bits.{bit_xor, xor_zero_l}
use Rattle.wire.specs.Check.{crc_bit, crc_bits, crc_byte, crc_from}
use Rattle.wire.specs.InnerCheck.{fed, fed_all, words_in}
use Rattle.wire.specs.declared.Words.{Words}
use Rattle.wire.proofs.Laws.{bits_small}
use Rattle.wire.proofs.Xor.{xor_assoc}
use Rattle.wire.proofs.Powers.{bits_after, power64}
use Rattle.wire.proofs.WordLaws.{fed_small, fed_from, fed_with}

-- ---- the polynomial's 64th power: x^1024 is x^768 + x^320 + 1, which are 16, 12, 5 and 0 words

-- v is added to the word that stands behind k others
unfoldable pub add_to : ℕ → ℕ → List ℕ → List ℕ
add_to k v [] = []
add_to zero v (w ∷ ws) = bit_xor w v ∷ ws
add_to (suc k) v (w ∷ ws) = w ∷ add_to k v ws

-- the first word goes, and is added to those that stand 4, 11 and 16 behind it
unfoldable pub moved : List ℕ → List ℕ
moved [] = []
moved (v ∷ ws) = add_to 15 v (add_to 10 v (add_to 3 v ws))

-- what is added to the register before words is added behind them, moved by their bits
all_from : (ws : List ℕ) (a b : ℕ) → a < 65536 → b < 65536 → fed_all (bit_xor a b) ws ≡ bit_xor (fed_all a ws) (crc_bits (64 * length ws) b)
unfolding fed_all crc_bits
all_from [] a b h k = refl
all_from (w ∷ ws) a b h k =
    let e : 64 + 64 * length ws ≡ 64 * suc (length ws) = omega arith in
    ap (λ (x : ℕ). fed_all x ws) (fed_from a b w h k)
    ∙ all_from ws (fed 8 a w) (crc_bits 64 b) (fed_small 8 a w h) (bits_small 64 b k)
    ∙ ap (bit_xor (fed_all (fed 8 a w) ws)) (sym (bits_after 64 (64 * length ws) b) ∙ ap (λ (n : ℕ). crc_bits n b) e)

-- and so is what is added to a word that j words follow
added : (k v j c : ℕ) (ws : List ℕ) → length ws ≡ suc (k + j) → c < 65536
    → fed_all c (add_to k v ws) ≡ bit_xor (fed_all c ws) (crc_bits (64 * j) (fed 8 0 v))
unfolding fed_all add_to
added k v j c [] e h = absurd (omega arith)
added zero v j c (w ∷ ws) e h =
    let n : length ws ≡ j = omega arith in
    ap (λ (x : ℕ). fed_all x ws) (fed_with c w v h)
    ∙ all_from ws (fed 8 c w) (fed 8 0 v) (fed_small 8 c w h) (fed_small 8 0 v (omega arith))
    ∙ ap (λ (m : ℕ). bit_xor (fed_all (fed 8 c w) ws) (crc_bits (64 * m) (fed 8 0 v))) n
added (suc k) v j c (w ∷ ws) e h = added k v j (fed 8 c w) ws (omega arith) (fed_small 8 c w h)

length_add_to : (k v : ℕ) (ws : List ℕ) → length (add_to k v ws) ≡ length ws
unfolding add_to
length_add_to k v [] = refl
length_add_to zero v (w ∷ ws) = refl
length_add_to (suc k) v (w ∷ ws) = ap suc (length_add_to k v ws)

pub moved_same : (v : ℕ) (ws : List ℕ) → length ws ≡ 16 → fed_all 0 (moved (v ∷ ws)) ≡ fed_all 0 (v ∷ ws)
unfolding fed_all moved crc_bits
moved_same v ws e =
    let r = fed 8 0 v in
    let a = fed_all 0 ws in
    let one = add_to 3 v ws in
    let two = add_to 10 v one in
    let small : fed 8 0 v < 65536 = fed_small 8 0 v (omega arith) in
    let e1 : length one ≡ 16 = length_add_to 3 v ws ∙ e in
    let e2 : length two ≡ 16 = length_add_to 10 v one ∙ e1 in
    added 15 v 0 0 two e2 (omega arith)
    ∙ ap (λ (x : ℕ). bit_xor x r) (added 10 v 5 0 one e1 (omega arith) ∙ ap (λ (x : ℕ). bit_xor x (crc_bits 320 r)) (added 3 v 12 0 ws e (omega arith)))
    ∙ ap (λ (x : ℕ). bit_xor x r) (xor_assoc a (crc_bits 768 r) (crc_bits 320 r))
    ∙ xor_assoc a (bit_xor (crc_bits 768 r) (crc_bits 320 r)) r
    ∙ ap (bit_xor a) (sym (power64 r small))
    ∙ ap (λ (n : ℕ). bit_xor a (crc_bits (64 * n) r)) (sym e)
    ∙ sym (all_from ws 0 r (omega arith) small)
    ∙ ap (λ (x : ℕ). fed_all x ws) (xor_zero_l r)

-- ---- sixteen words one after another

pub sixteen : (c : ℕ) (x : Words)
    → fed 8 (fed 8 (fed 8 (fed 8 (fed 8 (fed 8 (fed 8 (fed 8 (fed 8 (fed 8 (fed 8 (fed 8 (fed 8 (fed 8 (fed 8 (fed 8 c
    x.w0) x.w1) x.w2) x.w3) x.w4) x.w5) x.w6) x.w7) x.w8) x.w9) x.w10) x.w11) x.w12) x.w13) x.w14) x.w15
    ≡ fed_all c (words_in x)
unfolding fed_all words_in
sixteen c x = refl

-- fifteen words 0 and the preset leave FFFF, as the preset alone does
pub preset_word : fed 8 0 33999 ≡ 65535
unfolding fed crc_byte crc_bits crc_bit
preset_word = refl

pub preset_words : fed_all 0 (0 ∷ 0 ∷ 0 ∷ 0 ∷ 0 ∷ 0 ∷ 0 ∷ 0 ∷ 0 ∷ 0 ∷ 0 ∷ 0 ∷ 0 ∷ 0 ∷ 0 ∷ 33999 ∷ []) ≡ 65535
unfolding fed_all fed crc_byte crc_bits crc_bit
preset_words = refl

-- the words ws stand in s from i up to k
pub record Stand (s : List ℕ) (i k : ℕ) (ws : List ℕ) : Type 0 where
  pub is : (c : ℕ) → crc_from c (drop i s) ≡ crc_from (fed_all c ws) (drop k s)

pub none : (s : List ℕ) (i : ℕ) → Stand s i i []
unfolding fed_all
none s i = record { is = λ c. refl }

-- and so does a word ahead of them, from i up to j, with them
pub ahead : (i j w : ℕ) {s : List ℕ} {k : ℕ} {ws : List ℕ} → ((c : ℕ) → crc_from c (drop i s) ≡ crc_from (fed 8 c w) (drop (i + 8) s)) → i + 8 ≡ j → Stand s j k ws
    → Stand s i k (w ∷ ws)
unfolding fed_all
ahead i j w {s} p e q = record { is = λ c. p c ∙ ap (λ (m : ℕ). crc_from (fed 8 c w) (drop m s)) e ∙ q.is (fed 8 c w) }
