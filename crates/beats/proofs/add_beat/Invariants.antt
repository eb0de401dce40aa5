-- At every turn the samples so far have the beat, and those after them ask from the zone that is reached.
use Rattle.beats.proofs.Turns.{Reached}
use Rattle.beats.proofs.add_beat.Given as goal

abbrev pub invariant-loop-i : goal.invariant-loop-i
invariant-loop-i l = Reached l.s l.beat l.first l.initial.room l.zones l.room l.k l.i
