-- Pointers of absent sections, one after another. No public contract rests on this.
use Rattle.std.specs.Prelude.{ℕ, zero, suc, ◌+◌, List, [], ◌++◌}
use Rattle.layout.specs.Layout.{absent}

-- those of n sections, from an ID on
unfoldable pub absents : ℕ → ℕ → List ℕ
absents id zero = []
absents id (suc n) = absent id ++ absents (id + 1) n
