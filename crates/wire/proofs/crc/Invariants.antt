-- At every turn the bytes still to come lead the register that the words leave to the definition's answer; those behind the last turn are taken
-- word by word.
use mathlib.Core.Path.{◌≡◌}
use lib.ListN.{length}
use Rattle.wire.specs.Check.{crc_from, crc_of}
use Rattle.wire.specs.InnerCheck.{fed_all, words_in}
use Rattle.wire.proofs.crc.Given as goal

abbrev pub invariant-loop-bytes : goal.invariant-loop-bytes
invariant-loop-bytes l = crc_from (fed_all 0 (words_in l.x)) l.rest ≡ crc_of l.s

abbrev pub decreases-loop-bytes : goal.decreases-loop-bytes
decreases-loop-bytes l = length l.rest
