-- Definitions for the inner contracts of the check. A word is eight bytes as one number, the first the highest. No public contract rests on this.
use Rattle.std.specs.Prelude.{ℕ, zero, suc, ◌/◌, ◌%◌, ◌^◌, List, [], ◌∷◌}
use Rattle.std.specs.Int.Bits.{bit_xor}
use Rattle.wire.specs.Check.{crc_byte}
use Rattle.wire.specs.declared.Words.{Words}

-- the register c after the n lowest bytes of w, the highest of them first
unfoldable pub fed : ℕ → ℕ → ℕ → ℕ
fed zero c w = c
fed (suc n) c w = crc_byte (fed n c (w / 256)) (w % 256)

-- the register c after words
unfoldable pub fed_all : ℕ → List ℕ → ℕ
fed_all c [] = c
fed_all c (w ∷ ws) = fed_all (fed 8 c w) ws

-- the sixteen words as a list
unfoldable pub words_in : Words → List ℕ
words_in x =
    x.w0 ∷ x.w1 ∷ x.w2 ∷ x.w3 ∷ x.w4 ∷ x.w5 ∷ x.w6 ∷ x.w7
    ∷ x.w8 ∷ x.w9 ∷ x.w10 ∷ x.w11 ∷ x.w12 ∷ x.w13 ∷ x.w14 ∷ x.w15 ∷ []

-- how often the polynomial's 4th power, x^64 + x^48 + x^20 + 1, goes into w times x^64
unfoldable pub quotient : ℕ → ℕ
quotient w = bit_xor (bit_xor (bit_xor w (w / 2 ^ 16)) (bit_xor w (w / 2 ^ 16) / 2 ^ 32)) (w / 2 ^ 44)
