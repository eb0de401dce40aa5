-- The bytes behind a section's check. No public contract rests on this.
use Rattle.std.specs.Prelude.{ℕ, List, ◌∷◌, ◌++◌}
use Rattle.wire.specs.Numbers.{bytes_of}

-- the ID in two bytes, the length in four, the version byte twice, the reserved bytes, then the data
abbrev pub headed : ℕ → ℕ → ℕ → List ℕ → List ℕ → List ℕ
headed id size version reserved rest = bytes_of 2 id ++ (bytes_of 4 size ++ (version ∷ (version ∷ (reserved ++ rest))))
