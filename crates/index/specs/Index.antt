-- What an index is, and looking up an identifier in it (02, Q-13).
use Rattle.std.specs.Prelude.{ℕ, zero, suc, ◌+◌, Bool, not, ◌&&◌, cond, List, [], ◌∷◌, ◌++◌, leb, eqb, length, take, drop, Result, Ok, Err}
use Rattle.fields.specs.declared.Part.{Part}
use Rattle.fields.specs.Identifier.{same}
use Rattle.index.specs.Entry.{Entry, entry_bytes, entry_size, entry_in, is_entry}
use Rattle.index.specs.Order.{less, before, in_order}

-- the bytes of entries, one behind another, and how many these are
unfoldable pub index_bytes : List Entry → List ℕ
index_bytes [] = []
index_bytes (e ∷ es) = entry_bytes e ++ index_bytes es

unfoldable pub bytes_in : List Entry → ℕ
bytes_in [] = 0
bytes_in (e ∷ es) = entry_size e + bytes_in es

-- the whole entries by the rules from the front of s on, at most n
unfoldable pub entries_from : ℕ → List ℕ → List Entry
entries_from zero s = []
entries_from (suc n) s = cond (is_entry s) (entry_in s ∷ entries_from n (drop (entry_size (entry_in s)) s)) []

-- all of them: an entry has bytes, so there are no more entries than bytes
unfoldable pub entries_in : List ℕ → List Entry
entries_in s = entries_from (length s) s

-- bytes are an index where whole entries by the rules take up all of them, in order
unfoldable pub is_index : List ℕ → Bool
is_index s = eqb (bytes_in (entries_in s)) (length s) && in_order (entries_in s)

-- 26: no more bytes are in use than were lent, and these are an index
unfoldable pub index_right : List ℕ → ℕ → Bool
index_right lent used = leb used (length lent) && is_index (take used lent)

-- entries up to the first that breaks a rule, and those from it on
unfoldable pub front : (Entry → Bool) → List Entry → List Entry
front rule [] = []
front rule (e ∷ es) = cond (rule e) (e ∷ front rule es) []

unfoldable pub behind : (Entry → Bool) → List Entry → List Entry
behind rule [] = []
behind rule (e ∷ es) = cond (rule e) (behind rule es) (e ∷ es)

-- an entry that e does not come before, so one that is not greater
abbrev pub up_to : Entry → Entry → Bool
up_to e x = not (before e x)

-- entries with e put in among them: in front of the first that it comes before; so, among entries in order, behind
-- all that are not greater
abbrev pub placed : Entry → List Entry → List Entry
placed e es = front (up_to e) es ++ (e ∷ behind (up_to e) es)

-- an entry of a smaller identifier than the one asked for, and one of this identifier, byte for byte
abbrev pub smaller : List ℕ → Entry → Bool
smaller id e = less e.identifier id

abbrev pub has : List ℕ → Entry → Bool
has id e = same e.identifier id

-- a part of `size` bytes from a place on; an empty one is at place 0
abbrev pub part_or_none : ℕ → ℕ → Result Part ℕ
part_or_none start size = cond (eqb size 0) (Ok (record { start = 0; size = 0 })) (Ok (record { start = start; size = size }))

-- the part of the index with the entries of an identifier: in order, the entries of smaller ones are before them
unfoldable pub found : List ℕ → List Entry → Result Part ℕ
found id es = part_or_none (bytes_in (front (smaller id) es)) (bytes_in (front (has id) (behind (smaller id) es)))

-- looking up an identifier: refused where the bytes in use are no index
unfoldable pub find_place : List ℕ → ℕ → List ℕ → Result Part ℕ
find_place lent used id = cond (index_right lent used) (found id (entries_in (take used lent))) (Err 26)
