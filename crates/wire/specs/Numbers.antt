-- Numbers in bytes, the least byte first (01, The record). Places count from 0 here, as a slice's do; 01 counts bytes from 1.
use Rattle.std.specs.Prelude.{ℕ, zero, suc, ◌+◌, ◌*◌, ◌-◌, ◌/◌, ◌%◌, List, [], ◌∷◌, get_or, take, drop}

-- the byte at a place; 0 where there is no byte. Where a rule reads a number, that rule or one before it asks that all of the number's
-- bytes are there
abbrev pub byte_at : List ℕ → ℕ → ℕ
byte_at s i = get_or s i 0

-- the number that w bytes hold from a place on, the least byte first
unfoldable pub number_at : ℕ → List ℕ → ℕ → ℕ
number_at zero s i = 0
number_at (suc w) s i = byte_at s i + number_at w s (i + 1) * 256

-- a number in w bytes, the least byte first
unfoldable pub bytes_of : ℕ → ℕ → List ℕ
bytes_of zero n = []
bytes_of (suc w) n = n % 256 ∷ bytes_of w (n / 256)

-- the bytes from a place up to another, the second left out
abbrev pub part : List ℕ → ℕ → ℕ → List ℕ
part s start end = take (end - start) (drop start s)
