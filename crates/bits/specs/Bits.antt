-- Bits (01, Code tables; 01, Examples to hold against: P3 and P5 have streams that show the order). A bit is 0 or 1; a stream of bits
-- is a list, in the order in which they are read.
use Rattle.std.specs.Prelude.{ℕ, zero, suc, ◌+◌, ◌-◌, ◌*◌, ◌/◌, ◌%◌, ◌^◌, Bool, true, false, ◌&&◌, cond, List, [], ◌∷◌, ◌++◌, ℤ, pos, negsuc, ltb, eqb}

-- the w lowest bits of a number, the most significant first
unfoldable pub high_first : ℕ → ℕ → List ℕ
high_first zero n = []
high_first (suc w) n = n / 2 ^ w % 2 ∷ high_first w n

-- the w lowest bits of a number, the lowest first
unfoldable pub low_first : ℕ → ℕ → List ℕ
low_first zero n = []
low_first (suc w) n = n % 2 ∷ low_first w (n / 2)

-- the bits of bytes: eight for each, the most significant first
unfoldable pub bits_in : List ℕ → List ℕ
bits_in [] = []
bits_in (b ∷ bs) = high_first 8 b ++ bits_in bs

-- the number that bits are, the most significant first, read on after the number a; `number_of` is that of the bits alone
unfoldable pub number_after : ℕ → List ℕ → ℕ
number_after a [] = a
number_after a (b ∷ bs) = number_after (a * 2 + b) bs

abbrev pub number_of : List ℕ → ℕ
number_of bs = number_after 0 bs

-- the whole number that w bits are in two's complement, n being the number that they are without a sign. A whole number is `pos m`,
-- which is m, or `negsuc m`, which is -(m + 1): the second case is n - 2^w
unfoldable pub signed : ℕ → ℕ → ℤ
signed w n = cond (ltb n (2 ^ (w - 1))) (pos n) (negsuc (2 ^ w - suc n))

-- the first list begins the second, or equals it
unfoldable pub begins : List ℕ → List ℕ → Bool
begins [] bs = true
begins (a ∷ p) [] = false
begins (a ∷ p) (b ∷ bs) = eqb a b && begins p bs
