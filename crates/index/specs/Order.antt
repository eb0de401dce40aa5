-- The order of the index (02, Q-13): by identifier, then by date. That equal ones stand in order of arrival, `Arranged` says (crates/arranged).
use Rattle.std.specs.Prelude.{ℕ, Bool, true, false, not, ◌&&◌, ◌||◌, List, [], ◌∷◌, ltb, eqb}
use Rattle.fields.specs.Identifier.{same}
use Rattle.index.specs.Entry.{Entry}

-- a list of numbers comes before another where it is smaller at the first place at which they differ; a shorter one comes before a longer
-- one that begins with it
unfoldable pub less : List ℕ → List ℕ → Bool
less a [] = false
less [] (y ∷ b) = true
less (x ∷ a) (y ∷ b) = ltb x y || (eqb x y && less a b)

-- a date is ordered by year, then by month, then by day
abbrev pub date_of : Entry → List ℕ
date_of e = e.year ∷ e.month ∷ e.day ∷ []

-- an entry comes before another by its identifier's bytes; of one identifier, by its date
unfoldable pub before : Entry → Entry → Bool
before e f = less e.identifier f.identifier || (same e.identifier f.identifier && less (date_of e) (date_of f))

-- no entry comes before the one that it stands behind: e, and then the others
unfoldable pub ordered_from : Entry → List Entry → Bool
ordered_from e [] = true
ordered_from e (f ∷ fs) = not (before f e) && ordered_from f fs

unfoldable pub in_order : List Entry → Bool
in_order [] = true
in_order (e ∷ es) = ordered_from e es
