-- The leads from k on are sized; their samples begin at at, and most is the most bits that were found for one.
use Prim.Native.Nat.{◌+◌, ◌-◌}
use mathlib.Core.Path.{◌≡◌}
use lib.ListN.{length, take, drop}
use Rattle.compose.specs.Writing.{total, cut}
use Rattle.compose.specs.InnerSizes.{number_at, SizedAs}
use Rattle.compose.proofs.size_streams.Given as goal

abbrev pub invariant-loop-k : goal.invariant-loop-k
invariant-loop-k l =
    (l.at + total (drop l.k l.job.counts.now) ≡ length l.job.samples.now)
    × SizedAs l.job.section2.now l.job.head.order (cut (drop l.k l.job.counts.now) (drop l.at l.job.samples.now)) (number_at l.most)
    (take (length l.job.counts.now - l.k) (drop l.k l.sizes))
    × (length l.tab ≡ 0 → l.work ≡ l.initial.work)
