-- Bits packed into bytes (the order: 01, Examples to hold against, P3 and P5; the bits left over: 01, Leads and samples): each byte
-- from its highest bit down, and what is left of the last byte 0.
use Rattle.std.specs.Prelude.{ℕ, zero, suc, ◌+◌, ◌/◌, List, [], ◌∷◌, ◌++◌, length, take, drop, replicate}
use Rattle.bits.specs.Bits.{number_of}

-- this many bytes, of eight bits each; where the bits run out, 0
unfoldable pub packed_in : ℕ → List ℕ → List ℕ
packed_in zero bs = []
packed_in (suc n) bs = number_of (take 8 (bs ++ replicate 8 0)) ∷ packed_in n (drop 8 bs)

-- how many bytes are needed for this many bits
abbrev pub bytes_for : ℕ → ℕ
bytes_for bits = (bits + 7) / 8

-- bits packed into as many bytes as they need
unfoldable pub packed : List ℕ → List ℕ
packed bs = packed_in (bytes_for (length bs)) bs
