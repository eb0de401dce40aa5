-- With the tables before t passed, their value's structures are marked, and what they cost is known.
use Prim.Native.Nat.{ℕ, suc, ◌≤◌, ◌<◌}
use mathlib.Core.Path.{◌≡◌}
use mathlib.Core.List.{List}
use lib.ListN.{length}
use Rattle.tables.specs.declared.Structure.{Structure}
use Rattle.compiled.specs.InnerForm.{Compiled}
use Rattle.search.specs.InnerSearch.{cap, at, Known, ValuedTo}
use Rattle.search.proofs.values.Given as goal

abbrev pub invariant-loop-t : goal.invariant-loop-t
invariant-loop-t l = record {
  nine : length l.cur ≡ 9;
  most : (u : ℕ) → u < 9 → at l.cur u ≤ suc cap;
  valued : (tables : List (List Structure)) → Compiled tables l.tab → ValuedTo tables l.next l.v l.marks l.cur l.t;
  known : Known l.tab l.known;
}
