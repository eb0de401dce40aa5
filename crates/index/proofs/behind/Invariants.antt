-- The entries passed keep the rule, and those from at on take up all bytes that are left.
use Prim.Native.Nat.{◌-◌}
use mathlib.Core.Path.{◌≡◌}
use mathlib.Core.Bool.{Bool}
use lib.ListN.{length}
use Rattle.index.specs.declared.IndexEntry.{IndexEntry}
use Rattle.index.specs.Entry.{Entry}
use Rattle.index.specs.InnerSteps.{seen, Whole}
use Rattle.index.proofs.Walk.{Going}
use Rattle.index.proofs.behind.Given as goal

abbrev pub invariant-loop-at : goal.invariant-loop-at
invariant-loop-at g l = record {
  whole : Whole l.s l.at;
  going : (rule : Entry → Bool) → ((e : IndexEntry) (b : Bool) → goal.F-post g l.keeps e b → b ≡ rule (seen l.s e)) → Going rule l.s l.from l.at;
}

abbrev pub decreases-loop-at : goal.decreases-loop-at
decreases-loop-at g l = length l.s - l.at
