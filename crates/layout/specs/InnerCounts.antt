-- The byte counts in Section 6's data (01, Leads and samples), by the numbers alone: the streams are put behind them later.
-- No public contract rests on this.
use Rattle.std.specs.Prelude.{ℕ, List, [], ◌∷◌, ◌++◌}
use Rattle.wire.specs.Numbers.{bytes_of}

-- two bytes for each number
unfoldable pub byte_counts : List ℕ → List ℕ
byte_counts [] = []
byte_counts (n ∷ ns) = bytes_of 2 n ++ byte_counts ns
