-- What is kept where merging is accepted, and the entries of two lists in order, merged: b's next one, and what is in front of it and behind.
-- Assumes nothing.
use Prim.Native.Nat.{ℕ, ◌+◌, ◌≤◌}
use mathlib.Core.Path.{◌≡◌, refl, sym, ap, ◌∙◌}
use mathlib.Core.Bool.{true, false, not}
use mathlib.Core.List.{List, [], ◌∷◌, ◌++◌, append_assoc, append-nil}
use lib.ListN.{length}
use lib.Seq.{append_snoc}
use borrow.Author.Tests.{not-true, leb-true}
use Rattle.wire.specs.RuleWords.{every}
use Rattle.wire.proofs.Laws.{kept_first}
use Rattle.wire.proofs.Every.{every_parts, every_more, every_weaker}
use Rattle.index.specs.Entry.{Entry}
use Rattle.index.specs.Order.{before, in_order}
use Rattle.index.specs.Index.{is_index, front, behind, up_to, placed}
use Rattle.arranged.specs.Arranged.{Arranged}
use Rattle.arranged.proofs.Order.{like_self, like_not_less, not_less_onward, before_order}
use Rattle.arranged.proofs.Parts.{every_front, split_over}
use Rattle.arranged.specs.Arranged.{Arranged}
use Rattle.arranged.proofs.Ordered.{every_from}
use Rattle.arranged.proofs.Arranging.{put_in_lem, later_arranged}
use Rattle.merging.specs.Merging.{merged, room_for_both, merge_refusal}

-- where merging is accepted, both are an index and there is room
pub all_kept_lem : (a b : List ℕ) (room : ℕ) → merge_refusal a b room ≡ 0 → (is_index a ≡ true) × (is_index b ≡ true) × (length a + length b ≤ room)
unfolding merge_refusal
all_kept_lem a b room h =
    let p = kept_first (is_index a) 25 _ h in
    let q = kept_first (is_index b) 25 _ p.1 in
    let m = kept_first (room_for_both a b room) 10 _ q.1 in
    (p.0, q.0, leb-true (length a + length b) room m.0)

-- an entry that comes before none of xs is put in behind them
placed_over : (g : Entry) (xs es : List Entry) → every (up_to g) xs ≡ true → placed g (xs ++ es) ≡ xs ++ placed g es
placed_over g xs es h = let p = split_over (up_to g) xs es h in rw (p.0, p.1) (append_assoc xs (front (up_to g) es) (g ∷ behind (up_to g) es))

-- where none of gs comes before any of xs, xs stay in front
merged_over : (xs es gs : List Entry) → every (λ g. every (up_to g) xs) gs ≡ true → merged (xs ++ es) gs ≡ xs ++ merged es gs
unfolding merged
merged_over xs es [] h = refl
merged_over xs es (g ∷ gs) h =
    let p = every_parts (λ g. every (up_to g) xs) g gs h in
    rw (placed_over g xs es p.0) (merged_over xs (placed g es) gs p.1)

-- in order, the next entry of b goes behind those of a that are not greater, and the others behind it
pub merged_next : (es : List Entry) (f : Entry) (fs : List Entry) → in_order (f ∷ fs) ≡ true
    → merged es (f ∷ fs) ≡ front (up_to f) es ++ (f ∷ merged (behind (up_to f) es) fs)
unfolding merged
merged_next es f fs h =
    let xs = front (up_to f) es ++ (f ∷ []) in
    let stays : (e g : Entry) → before g e ≡ false → every (up_to e) xs ≡ true → every (up_to g) xs ≡ true =
    λ e g k. every_weaker (up_to e) (up_to g) (λ x q. ap not (not_less_onward before_order x e g (not-true (before e x) q) k)) xs in
    let own : every (up_to f) xs ≡ true = every_more (up_to f) (front (up_to f) es) f (every_front (up_to f) es) (ap not (like_not_less before_order f f (like_self before_order f))) in
    let all = every_parts (λ g. every (up_to g) xs) f fs (every_from (λ g. every (up_to g) xs) stays f fs h own) in
    ap (λ (l : List Entry). merged l fs) (sym (append_assoc (front (up_to f) es) (f ∷ []) (behind (up_to f) es)))
    ∙ merged_over xs (behind (up_to f) es) fs all.1
    ∙ append_assoc (front (up_to f) es) (f ∷ []) (merged (behind (up_to f) es) fs)

-- merged, the entries of two lists are what adding the second's to the first's one after another gives
merged_added : (arrived es fs : List Entry) → Arranged arrived es → Arranged (arrived ++ fs) (merged es fs)
unfolding merged
merged_added arrived es [] a = rw (append-nil arrived) a
merged_added arrived es (f ∷ fs) a = rw append_snoc at (merged_added (arrived ++ (f ∷ [])) (placed f es) fs (put_in_lem arrived es f a))

-- so two arrangements, merged, are the arrangement of what arrived first and then of what arrived later
pub merged_arranged : (arrived late es fs : List Entry) → Arranged arrived es → Arranged late fs → Arranged (arrived ++ late) (merged es fs)
merged_arranged arrived late es fs a b = later_arranged arrived late fs (merged es fs) b (merged_added arrived es fs a)
