-- Looking up an identifier in a list in order: the entries that have it stand together. Assumes nothing.
use Prim.Native.Nat.{ℕ}
use mathlib.Core.Path.{◌≡◌, sym, ap, ◌∙◌}
use mathlib.Core.Bool.{Bool, true, false, not}
use mathlib.Core.List.{List, ◌++◌}
use borrow.Author.Tests.{not-true}
use Rattle.wire.specs.RuleWords.{every}
use Rattle.index.specs.Entry.{Entry}
use Rattle.index.specs.Order.{less, before, in_order}
use Rattle.index.specs.Index.{front, behind, smaller, has}
use Rattle.arranged.specs.Arranged.{those}
use Rattle.arranged.proofs.Order.{first, second, third, less_later, less_not_like, like_turned, not_less_onward, less_order}
use Rattle.wire.proofs.Every.{every_weaker, every_any}
use Rattle.arranged.proofs.Parts.{every_front, split, those_middle}
use Rattle.arranged.proofs.Ordered.{behind_ordered, every_behind}

-- no entry before the part that is found has the identifier, every one in it has, and none behind it
pub record LookedUp (id : List ℕ) (es : List Entry) : Type 0 where
  pub ahead : every (λ e. not (has id e)) (front (smaller id) es) ≡ true
  pub within : every (has id) (front (has id) (behind (smaller id) es)) ≡ true
  pub past : every (λ e. not (has id e)) (behind (has id) (behind (smaller id) es)) ≡ true

-- an entry that does not come before another has no smaller identifier
not_less_identifier : (e f : Entry) → before f e ≡ false → less f.identifier e.identifier ≡ false
unfolding before
not_less_identifier e f h =
    elim (less_order.cases f.identifier e.identifier) [ first p q r ↦ cc | second p q r ↦ p | third p q r ↦ p ]

module _ (id : List ℕ) where
  -- an entry of a larger identifier
  abbrev larger : Entry → Bool
  larger e = less id e.identifier

  -- from the first entry on whose identifier is not smaller, none is smaller
  none_smaller : (es : List Entry) → in_order es ≡ true → every (λ e. not (smaller id e)) (behind (smaller id) es) ≡ true
  none_smaller es = every_behind (λ e. not (smaller id e)) stays (λ e. true) (smaller id) (λ e a q. rw q) es (every_any es)
    where
      stays : (e f : Entry) → before f e ≡ false → not (smaller id e) ≡ true → not (smaller id f) ≡ true
      stays e f h k =
          rw (not_less_onward less_order id e.identifier f.identifier (not-true (smaller id e) k) (not_less_identifier e f h))

  -- where none is smaller, from the first on that is another all are larger
  all_larger : (es : List Entry) → every (λ e. not (smaller id e)) es ≡ true → in_order es ≡ true
      → every larger (behind (has id) es) ≡ true
  all_larger = every_behind larger stays (λ e. not (smaller id e)) (has id) turn
    where
      stays : (e f : Entry) → before f e ≡ false → larger e ≡ true → larger f ≡ true
      stays e f h k = less_later less_order id e.identifier f.identifier k (not_less_identifier e f h)

      turn : (e : Entry) → not (smaller id e) ≡ true → has id e ≡ false → larger e ≡ true
      turn e h k =
          elim (less_order.cases e.identifier id) [
            | first p q r ↦ cc (not-true (smaller id e) h)
            | second p q r ↦ cc
            | third p q r ↦ r
          ]

  -- an entry of a smaller identifier does not have the one that is asked for
  smaller_other : (e : Entry) → smaller id e ≡ true → not (has id e) ≡ true
  smaller_other e h = rw (less_not_like less_order e.identifier id h)

  -- nor does one of a larger
  larger_other : (e : Entry) → larger e ≡ true → not (has id e) ≡ true
  larger_other e h = rw (like_turned less_order e.identifier id, less_not_like less_order id e.identifier h)

  -- in order, the entries that have the identifier stand together, where they are looked for
  pub looked_up : (es : List Entry) → in_order es ≡ true → LookedUp id es
  looked_up es h = record {
    ahead = every_weaker (smaller id) (λ e. not (has id e)) smaller_other (front (smaller id) es) (every_front (smaller id) es);
    within = every_front (has id) (behind (smaller id) es);
    past = every_weaker larger (λ e. not (has id e)) larger_other (behind (has id) (behind (smaller id) es))
        (all_larger (behind (smaller id) es) (none_smaller es h) (behind_ordered (smaller id) es h));
  }

  -- so the part that is found has them all, and no others
  pub only_those : (es : List Entry) → in_order es ≡ true → front (has id) (behind (smaller id) es) ≡ those (has id) es
  only_those es h =
      let l = looked_up es h in
      let part = front (has id) (behind (smaller id) es) in
      let rest = behind (has id) (behind (smaller id) es) in
      let parts : es ≡ front (smaller id) es ++ (part ++ rest) =
      split (smaller id) es ∙ ap (λ (k : List Entry). front (smaller id) es ++ k) (split (has id) (behind (smaller id) es)) in
      sym (ap (those (has id)) parts ∙ those_middle (has id) (front (smaller id) es) part rest l.ahead l.within l.past)
