-- At every turn the number is that of the bytes read.
use mathlib.Core.Path.{◌≡◌}
use lib.ListN.{take}
use Rattle.bits.specs.Bits.{bits_in, number_of}
use Rattle.bits.proofs.last_word.Given as goal

abbrev pub invariant-loop-byte : goal.invariant-loop-byte
invariant-loop-byte l = l.w ≡ number_of (bits_in (take l.byte-index l.rest))
