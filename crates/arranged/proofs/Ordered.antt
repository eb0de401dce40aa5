-- Lists of entries in order: what holds of the entries behind one, and lists that stay in order. Assumes nothing.
use mathlib.Core.Path.{◌≡◌, refl}
use mathlib.Core.Bool.{Bool, true, false, not, cond, and-eq-true_iff}
use mathlib.Core.List.{List, [], ◌∷◌, ◌++◌}
use borrow.Author.Tests.{not-true}
use Rattle.wire.specs.RuleWords.{every}
use Rattle.index.specs.Entry.{Entry}
use Rattle.index.specs.Order.{before, ordered_from, in_order}
use Rattle.index.specs.Index.{front, behind, up_to, placed}
use Rattle.arranged.specs.Arranged.{those}
use Rattle.arranged.proofs.Order.{less_not_turned, not_less_onward, before_order}

-- in order from e on, the next does not come before e, and the others are in order from it on
from_next : (e f : Entry) (es : List Entry) → ordered_from e (f ∷ es) ≡ true → (before f e ≡ false) × (ordered_from f es ≡ true)
unfolding ordered_from
from_next e f es h =
    let p = (and-eq-true_iff (not (before f e)) (ordered_from f es)).0 h in
    (not-true (before f e) p.0, p.1)

-- and the other way round
from_join : (e f : Entry) (es : List Entry) → before f e ≡ false → ordered_from f es ≡ true → ordered_from e (f ∷ es) ≡ true
unfolding ordered_from
from_join e f es h k = rw (h, k)

-- without its first entry a list stays in order
pub tail_ordered : (e : Entry) (es : List Entry) → in_order (e ∷ es) ≡ true → in_order es ≡ true
unfolding in_order
tail_ordered e [] h = refl
tail_ordered e (f ∷ es) h = (from_next e f es h).1

-- from the first that breaks a rule on, it is in order
pub behind_ordered : (rule : Entry → Bool) (es : List Entry) → in_order es ≡ true → in_order (behind rule es) ≡ true
unfolding behind
behind_ordered rule [] h = h
behind_ordered rule (e ∷ es) h = go (rule e) (behind_ordered rule es (tail_ordered e es h))
  where
    go : (b : Bool) → in_order (behind rule es) ≡ true → in_order (cond b (behind rule es) (e ∷ es)) ≡ true
    go true k = k
    go false k = h

-- a rule that, where an entry keeps it, all keep that do not come before this entry
module _ (rule : Entry → Bool) (stays : (e f : Entry) → before f e ≡ false → rule e ≡ true → rule f ≡ true) where
  -- if the first of a list in order keeps it, all do
  pub every_from : (e : Entry) (es : List Entry) → in_order (e ∷ es) ≡ true → rule e ≡ true → every rule (e ∷ es) ≡ true
  unfolding every in_order
  every_from e [] h k = rw k
  every_from e (f ∷ es) h k = let p = from_next e f es h in rw k (every_from f es p.1 (stays e f p.0 k))

  -- where every entry keeps a known rule, and the first that breaks another rule keeps this one, all from that entry on do
  pub every_behind : (known other : Entry → Bool) → ((e : Entry) → known e ≡ true → other e ≡ false → rule e ≡ true) → (es : List Entry)
      → every known es ≡ true → in_order es ≡ true → every rule (behind other es) ≡ true
  unfolding every behind
  every_behind known other turn [] k h = refl
  every_behind known other turn (e ∷ es) k h =
      let p = (and-eq-true_iff (known e) (every known es)).0 k in
      go (other e) refl p.0 (every_behind known other turn es p.1 (tail_ordered e es h))
    where
      go : (b : Bool) → other e ≡ b → known e ≡ true → every rule (behind other es) ≡ true
          → every rule (cond b (behind other es) (e ∷ es)) ≡ true
      go true q p k = k
      go false q p k = every_from e es h (turn e p q)

-- those that keep a rule are in order from e on, if all are
those_from : (rule : Entry → Bool) (e : Entry) (es : List Entry) → ordered_from e es ≡ true → ordered_from e (those rule es) ≡ true
unfolding those ordered_from
those_from rule e [] h = h
those_from rule e (f ∷ es) h = go (rule f) (from_next e f es h) (λ (d : Entry). those_from rule d es)
  where
    skip : (fs : List Entry) → before f e ≡ false → ordered_from f fs ≡ true → ordered_from e fs ≡ true
    skip [] p q = refl
    skip (g ∷ fs) p q =
        let n = from_next f g fs q in
        from_join e g fs (not_less_onward before_order e f g p n.0) n.1

    go : (b : Bool) → (before f e ≡ false) × (ordered_from f es ≡ true)
        → ((d : Entry) → ordered_from d es ≡ true → ordered_from d (those rule es) ≡ true)
        → ordered_from e (cond b (f ∷ those rule es) (those rule es)) ≡ true
    go true p later = from_join e f (those rule es) p.0 (later f p.1)
    go false p later = later e (skip es p.0 p.1)

-- those that keep a rule are in order, if all are
pub those_ordered : (rule : Entry → Bool) (es : List Entry) → in_order es ≡ true → in_order (those rule es) ≡ true
unfolding those in_order
those_ordered rule [] h = h
those_ordered rule (e ∷ es) h = go (rule e) (those_ordered rule es (tail_ordered e es h))
  where
    go : (b : Bool) → in_order (those rule es) ≡ true → in_order (cond b (e ∷ those rule es) (those rule es)) ≡ true
    go true k = those_from rule e es h
    go false k = k

-- with e they are in order from d on, if they were and e does not come before d
placed_from : (e d : Entry) (es : List Entry) → before e d ≡ false → ordered_from d es ≡ true → ordered_from d (placed e es) ≡ true
unfolding front behind ordered_from
placed_from e d [] h k = from_join d e [] h refl
placed_from e d (f ∷ es) h k = go (before e f) refl (from_next d f es k) (placed_from e f es)
  where
    go : (b : Bool) → before e f ≡ b → (before f d ≡ false) × (ordered_from f es ≡ true)
        → (before e f ≡ false → ordered_from f es ≡ true → ordered_from f (placed e es) ≡ true)
        → ordered_from d (cond (not b) (f ∷ front (up_to e) es) [] ++ (e ∷ cond (not b) (behind (up_to e) es) (f ∷ es))) ≡ true
    go true q n later = from_join d e (f ∷ es) h (from_join e f es (less_not_turned before_order e f q) n.1)
    go false q n later = from_join d f (placed e es) n.0 (later q n.1)

-- with e they are in order, if they were
pub placed_ordered : (e : Entry) (es : List Entry) → in_order es ≡ true → in_order (placed e es) ≡ true
unfolding front behind in_order ordered_from
placed_ordered e [] h = refl
placed_ordered e (f ∷ es) h = go (before e f) refl
  where
    go : (b : Bool) → before e f ≡ b
        → in_order (cond (not b) (f ∷ front (up_to e) es) [] ++ (e ∷ cond (not b) (behind (up_to e) es) (f ∷ es))) ≡ true
    go true q = from_join e f es (less_not_turned before_order e f q) h
    go false q = placed_from e f es q h
