-- Entries arranged: in order, equal ones in order of arrival (02, Q-13).
use Rattle.std.specs.Prelude.{◌≡◌, Bool, true, ◌&&◌, cond, List, [], ◌∷◌}
use Rattle.fields.specs.Identifier.{same}
use Rattle.index.specs.Entry.{Entry}
use Rattle.index.specs.Order.{date_of, in_order}

-- equal ones are of one identifier and one date, number by number; how many leads they have does not count
unfoldable pub alike : Entry → Entry → Bool
alike e f = same e.identifier f.identifier && same (date_of e) (date_of f)

-- the entries of a list that keep a rule, in their order
unfoldable pub those : (Entry → Bool) → List Entry → List Entry
those rule [] = []
those rule (e ∷ es) = cond (rule e) (e ∷ those rule es) (those rule es)

-- es is what arrived, arranged: it is in order, and of every identifier and date it has exactly the entries that arrived, in the order in
-- which they did
pub record Arranged (arrived es : List Entry) : Type 0 where
  pub ordered : in_order es ≡ true
  pub each : (e : Entry) → those (alike e) es ≡ those (alike e) arrived
