-- A lead's entry in Section 3. No public contract rests on this.
use Rattle.std.specs.Prelude.{ℕ, ◌+◌, ◌-◌, List, [], ◌∷◌, ◌++◌}
use Rattle.wire.specs.Numbers.{bytes_of}

-- the first sample's number in four bytes, the last one's in four, then the ID
unfoldable pub entry_bytes : ℕ → ℕ → ℕ → List ℕ
entry_bytes first count id = bytes_of 4 first ++ (bytes_of 4 (first + count - 1) ++ (id ∷ []))
