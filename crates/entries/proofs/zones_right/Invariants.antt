-- At every turn the last sample so far is at hand and the zones still to come decide; a wrong one decides at once.
use mathlib.Core.Path.{◌≡◌}
use Rattle.wire.specs.RuleWords.{all_in}
use Rattle.entries.specs.Section4.{last_before, zone_right}
use Rattle.entries.proofs.zones_right.Given as goal

abbrev pub invariant-loop-k : goal.invariant-loop-k
invariant-loop-k l = (l.last ≡ last_before l.s l.k) × (all_in l.k l.n (zone_right l.samples l.s) ≡ all_in 0 l.n (zone_right l.samples l.s))
