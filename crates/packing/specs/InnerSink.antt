-- The bits that the writer of bits holds. No public contract rests on this.
use Rattle.std.specs.Prelude.{ℕ, ◌+◌, ◌*◌, ◌≤◌, ◌≡◌, List, ◌++◌, length, take}
use Rattle.bits.specs.Bits.{high_first, bits_in}
use Rattle.packing.specs.declared.Sink.{Sink}

-- how many bits were put
abbrev pub bits_put : Sink → ℕ
bits_put s = s.at * 8 + s.part

-- the bytes written so far and the bits that do not fill a byte yet are the bits bs
pub record Holds (out : List ℕ) (s : Sink) (bs : List ℕ) : Type 0 where
  pub bits : bits_in (take s.at out) ++ high_first s.part s.acc ≡ bs
  pub at : s.at ≤ length out
