-- At every turn the bytes still to come lead the register that the word leaves to the definition's answer; those behind the last turn are taken
-- one by one.
use mathlib.Core.Path.{◌≡◌}
use lib.ListN.{length}
use Rattle.wire.specs.Check.{crc_from}
use Rattle.wire.specs.InnerCheck.{fed}
use Rattle.wire.proofs.by_words.Given as goal

abbrev pub invariant-loop-bytes : goal.invariant-loop-bytes
invariant-loop-bytes l = crc_from (fed 8 0 l.v) l.rest ≡ crc_from (fed 8 0 l.w) l.s

abbrev pub decreases-loop-bytes : goal.decreases-loop-bytes
decreases-loop-bytes l = length l.rest
