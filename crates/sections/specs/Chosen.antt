-- A list of sections with some left out, or with their bytes changed, for a record that is written anew.
use Rattle.std.specs.Prelude.{ℕ, Bool, cond, List, [], ◌∷◌, map}
use Rattle.sections.specs.Sections.{Section}

-- the sections whose IDs pass a test; the pointers of the others go too
unfoldable pub keeping : (ℕ → Bool) → List Section → List Section
keeping p [] = []
keeping p (s ∷ ss) = cond (p s.id) (s ∷ keeping p ss) (keeping p ss)

-- a section with bytes that a rule makes from its ID and its bytes, absent where it makes none; and each of a list so
abbrev pub changed : (ℕ → List ℕ → List ℕ) → Section → Section
changed g s = record { id = s.id; bytes = g s.id s.bytes }

abbrev pub changing : (ℕ → List ℕ → List ℕ) → List Section → List Section
changing g ss = map (changed g) ss
