-- The check of a record and of a section (01, The record): CRC-CCITT with polynomial 1021 hex. The register starts at FFFF and takes
-- each byte from its highest bit down; what it holds at the end is the check.
use Rattle.std.specs.Prelude.{ℕ, zero, suc, ◌*◌, ◌%◌, cond, List, [], ◌∷◌, ltb}
use Rattle.std.specs.Int.Bits.{bit_xor}

-- the register, 16 bits, moves up by one bit; where a 1 leaves it, the polynomial is added
unfoldable pub crc_bit : ℕ → ℕ
crc_bit c = cond (ltb c 32768) (c % 32768 * 2) (bit_xor (c % 32768 * 2) 4129)

-- the register moved up by k bits
unfoldable pub crc_bits : ℕ → ℕ → ℕ
crc_bits zero c = c
crc_bits (suc k) c = crc_bits k (crc_bit c)

-- a byte is added to the register's upper half, and the register moves up by eight bits
unfoldable pub crc_byte : ℕ → ℕ → ℕ
crc_byte c b = crc_bits 8 (bit_xor c (b * 256))

-- the register after all bytes of a list
unfoldable pub crc_from : ℕ → List ℕ → ℕ
crc_from c [] = c
crc_from c (b ∷ bs) = crc_from (crc_byte c b) bs

-- the check of a list of bytes
unfoldable pub crc_of : List ℕ → ℕ
crc_of s = crc_from 65535 s
