-- The leads from k on are put; their samples begin at at, their streams at from.
use Prim.Native.Nat.{ℕ, ◌+◌}
use mathlib.Core.Path.{◌≡◌}
use mathlib.Core.List.{List}
use lib.ListN.{length, drop}
use Rattle.layout.specs.Layout.{joined}
use Rattle.compose.specs.Writing.{total, cut}
use Rattle.compose.specs.InnerSizes.{StreamsFor}
use Rattle.compose.proofs.put_streams.Given as goal

abbrev pub invariant-loop-k : goal.invariant-loop-k
invariant-loop-k l =
    (l.at + total (drop l.k l.job.counts.now) ≡ length l.job.samples.now)
    × (l.from + total (drop l.k l.sizes) ≡ length l.initial.part)
    × ((streams : List (List ℕ)) → StreamsFor l.job.section2.now l.job.head.order (cut (drop l.k l.job.counts.now) (drop l.at l.job.samples.now)) streams
    → drop l.from l.part ≡ joined streams)
    × (length l.tab ≡ 0 → l.work ≡ l.initial.work)
