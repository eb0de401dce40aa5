-- The largest, of numbers below 4,294,967,296.
use mathlib.Core.Path.{◌≡◌, sym, ◌∙◌}
use native.Mathlib.Omega.{arith}
use Prim.Native.Nat.{max}
use Rattle.std.specs.List.{reduce}
use Rattle.std.proofs.lemmas.Iterator.Adapters.{option_map_id}
use Rattle.std.proofs.lemmas.Iterator.{YieldsList-from_slice}
use Rattle.std.proofs.lemmas.Iterator.Consumers.{max_from_yields_List, YieldsList-at, YieldsList-from_copied}
use Rattle.compose.proofs.Laws.{longest_reduce}
use Rattle.compose.proofs.longest_of.Goals as goal

pub returns : goal.returns
returns c = let counts = c.args.counts.now in
    let e : reduce max counts ≡ c.max.result = sym (sym (option_map_id _) ∙ max_from_yields_List c.copied.result _ c.max.ensures.ran
    (YieldsList-from_copied (YieldsList-at c.copied.ensures.source (YieldsList-from_slice counts c.iter.ensures.rest)))) in
    (c.unwrap_or.ensures ∙ rw (← e) (longest_reduce counts), omega arith)
