-- Where the entries of an identifier are: as the walks find it, and within the index. Assumes nothing.
use Prim.Native.Nat.{ℕ, ◌+◌, ◌-◌, ◌≤◌}
use mathlib.Core.Path.{◌≡◌, refl, sym, ap, ◌∙◌}
use mathlib.Core.Bool.{Bool, true, false, cond, and-eq-true_iff}
use mathlib.Core.List.{List}
use native.Mathlib.Omega.{arith}
use lib.Dec.{leb, eqb}
use lib.ListN.{length, take, drop, length-take}
use lib.Seq.{length-take-le}
use borrow.Author.Tests.{eq-eqb, ne_eqb, leb-true}
use Rattle.wire.proofs.Laws.{unlike}
use Rattle.std.specs.Prelude.{Result, Ok, Err}
use Rattle.fields.specs.declared.Part.{Part}
use Rattle.wire.specs.Numbers.{part}
use Rattle.index.specs.declared.IndexEntry.{IndexEntry}
use Rattle.index.specs.declared.Date.{Date}
use Rattle.index.specs.Order.{less}
use Rattle.index.proofs.Less.{decided_alone}
use Rattle.index.specs.Entry.{Entry}
use Rattle.index.specs.Index.{bytes_in, entries_in, index_right, front, behind, smaller, has, part_or_none, found, find_place}
use Rattle.index.specs.InnerSteps.{seen, date_in, before_by, Whole, Passed}
use Rattle.index.proofs.Walk.{bytes_split, index_whole}

-- two walks, past the smaller identifiers and then past the identifier's own entries, find their place
pub walks_find : (lent : List ℕ) (used : ℕ) (id : List ℕ) (start end : ℕ) → index_right lent used ≡ true
    → Passed (smaller id) (take used lent) 0 start → Passed (has id) (take used lent) start end
    → find_place lent used id ≡ part_or_none start (end - start)
unfolding find_place found
walks_find lent used id start end right p q =
    let size = rw p.rest at q.place in
    let a : bytes_in (front (smaller id) (entries_in (take used lent))) ≡ start = omega (arith, p.place) in
    let b : bytes_in (front (has id) (behind (smaller id) (entries_in (take used lent)))) ≡ end - start = omega arith in
    rw (right, a, b)

-- what the first walk asks of an entry: both days are its own
pub smaller_asked : (s id : List ℕ) (e : IndexEntry) (own : List ℕ) (day : Date) (b : Bool) → b ≡ before_by own day id day
    → own ≡ part s e.start e.next → b ≡ smaller id (seen s e)
smaller_asked s id e own day b asked is = asked ∙ decided_alone own id (date_in day) ∙ ap (λ (l : List ℕ). less l id) is

-- where nothing is refused the bytes in use are an index
pub in_use : (b r : Bool) → ◌≡◌ {A = ℕ} 0 (cond b 0 26) → b ≡ r → r ≡ true
in_use true r h e = sym e
in_use false r h e = absurd (omega arith)

-- entries take up all bytes of an index, from the start and from where the first walk ends
pub whole_index : (lent : List ℕ) (used : ℕ) → index_right lent used ≡ true → Whole (take used lent) 0
unfolding index_right
whole_index lent used h = index_whole (take used lent) ((and-eq-true_iff (leb used (length lent)) _).0 h).1

pub whole_passed : (rule : Entry → Bool) (s : List ℕ) (from at : ℕ) → Passed rule s from at → Whole s from → Whole s at
whole_passed rule s from at p w = rw p.rest (omega (arith, p.place, w, bytes_split rule (entries_in (drop from s))))

-- a part that has bytes, and one that has none
pub part_some : (start size : ℕ) → (size ≡ 0 → ⊥) → part_or_none start size ≡ Ok (record { start = start; size = size })
part_some start size h = rw (ne_eqb size 0 h)

pub part_none : (start size : ℕ) → size ≡ 0 → part_or_none start size ≡ Ok (record { start = 0; size = 0 })
part_none start size h = rw (eq-eqb size 0 h)

-- a part lies within its bounds
part_within : (a b : ℕ) (p : Part) → part_or_none a b ≡ Ok p → p.start + p.size ≤ a + b
part_within a b p h = go (eqb b 0) h
  where
    go : (c : Bool) → ◌≡◌ {A = Result Part ℕ} (cond c (Ok (record { start = 0; size = 0 })) (Ok (record { start = a; size = b }))) (Ok p) → p.start + p.size ≤ a + b
    go true e = let s : 0 ≡ p.start = cc in let z : 0 ≡ p.size = cc in omega arith
    go false e = let s : a ≡ p.start = cc in let z : b ≡ p.size = cc in omega arith

-- what is found lies within the lent index
pub found_inside : (lent : List ℕ) (used : ℕ) (id : List ℕ) (p : Part) → find_place lent used id ≡ Ok p → p.start + p.size ≤ length lent
unfolding find_place found
found_inside lent used id p h = go (index_right lent used) refl h
  where
    go : (b : Bool) → index_right lent used ≡ b → cond b (found id (entries_in (take used lent))) (Err 26) ≡ Ok p
        → p.start + p.size ≤ length lent
    go true right e =
        let s = take used lent in
        let es = entries_in s in
        let rest = behind (smaller id) es in
        let w = part_within (bytes_in (front (smaller id) es)) (bytes_in (front (has id) rest)) p e in
        omega (arith, w, whole_index lent used right, bytes_split (smaller id) es, bytes_split (has id) rest, length-take used lent)
    go false right e = unlike cc

-- what is known of the bytes in use
pub used_within : (lent : List ℕ) (used : ℕ) → index_right lent used ≡ true → used ≤ length lent
unfolding index_right
used_within lent used h = leb-true used (length lent) ((and-eq-true_iff (leb used (length lent)) _).0 h).0

pub used_length : (lent : List ℕ) (used : ℕ) → index_right lent used ≡ true → used ≡ length (take used lent)
used_length lent used h = let w = used_within lent used h in sym (length-take-le used lent w)

pub ruleset places = (used_within, used_length, whole_index)
