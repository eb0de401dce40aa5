-- How far merging has come. No public contract rests on this.
use Rattle.std.specs.Prelude.{ℕ, ◌+◌, ◌≤◌, ◌≡◌, List, ◌∷◌, length, drop}
use Rattle.index.specs.Entry.{Entry, entry_size}
use Rattle.index.specs.Index.{entries_in, up_to}
use Rattle.index.specs.InnerSteps.{Passed}
use Rattle.merging.specs.declared.Reached.{Reached}

-- from a place in a and one in b: b's next entry is passed, and so are those of a that are not greater
pub record Next (a : List ℕ) (i : ℕ) (b : List ℕ) (j : ℕ) (to : Reached) : Type 0 where
  pub entry : Entry
  pub passed : Passed (up_to entry) a i to.a
  pub entries : entries_in (drop j b) ≡ entry ∷ entries_in (drop to.b b)
  pub size : to.b ≡ j + entry_size entry
  pub within : to.b ≤ length b
