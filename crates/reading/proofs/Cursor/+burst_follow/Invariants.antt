-- The measure is twice the bits that are left, and one more for `burst`, which hands on at the same place.
use Rattle.std.proofs.Common.{◌+◌, ◌-◌, ◌*◌, length}
use Rattle.reading.proofs.Cursor.+burst_follow.Given as goal

abbrev pub decreases-burst : goal.decreases-burst
decreases-burst l = (length l.s.now * 8 - l.self.at) * 2 + 1

abbrev pub decreases-follow : goal.decreases-follow
decreases-follow l = (length l.s.now * 8 - l.self.at) * 2
