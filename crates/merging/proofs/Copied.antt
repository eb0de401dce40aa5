-- The bytes of two indexes, copied as merging goes on. Assumes nothing.
use Prim.Native.Nat.{ℕ, ◌+◌, ◌-◌, ◌≤◌}
use mathlib.Core.Path.{◌≡◌, refl, sym, ap, ◌∙◌}
use mathlib.Core.Bool.{Bool, true}
use mathlib.Core.List.{List, ◌∷◌, ◌++◌, append_assoc}
use native.Mathlib.Omega.{arith}
use lib.ListN.{length, take, drop, length-append, length-drop}
use lib.Seq.{take_at, drop_at, take_all, length-take-le}
use Rattle.wire.specs.Numbers.{part}
use Rattle.wire.specs.RuleWords.{are_bytes}
use Rattle.wire.proofs.Places.{part_length}
use Rattle.packing.proofs.Sinks.{rest_later}
use Rattle.index.specs.Entry.{Entry, entry_bytes, entry_size}
use Rattle.index.specs.Order.{in_order}
use Rattle.index.specs.Index.{index_bytes, bytes_in, entries_in, front, behind, up_to}
use Rattle.index.specs.InnerSteps.{Whole, Passed}
use Rattle.index.proofs.Walk.{none_past}
use Rattle.index.proofs.Bytes.{index_length, entry_length, index_append, whole_bytes}
use Rattle.index.proofs.Found.{whole_passed}
use Rattle.arranged.proofs.Parts.{split}
use Rattle.arranged.proofs.Ordered.{tail_ordered}
use Rattle.merging.specs.declared.Reached.{Reached}
use Rattle.merging.specs.Merging.{merged}
use Rattle.merging.specs.InnerMerging.{Next}
use Rattle.merging.proofs.Merged.{merged_next}

-- the bytes that a walk went over are those of the entries that it passed
passed_bytes : (rule : Entry → Bool) (s : List ℕ) (at to : ℕ) → are_bytes s ≡ true → Whole s at → Passed rule s at to
    → index_bytes (front rule (entries_in (drop at s))) ≡ part s at to
passed_bytes rule s at to b w p =
    let es = entries_in (drop at s) in
    let near = front rule es in
    let far = behind rule es in
    let whole : drop at s ≡ index_bytes near ++ index_bytes far =
    sym (whole_bytes s at b w) ∙ ap index_bytes (split rule es) ∙ index_append near far in
    let n : to - at ≡ bytes_in near = omega (arith, p.place) in
    sym (rw n (ap (take (bytes_in near)) whole ∙ take_at (index_bytes near) (index_bytes far) (bytes_in near) (index_length near)))

-- two parts put one behind the other
pub put_two : (out p q : List ℕ) (at : ℕ) → at + length p ≤ length out
    → (let out' = take at out ++ (p ++ drop (at + length p) out) in
    take (at + length p) out' ++ (q ++ drop (at + length p + length q) out'))
    ≡ take at out ++ (p ++ (q ++ drop (at + length p + length q) out))
put_two out p q at h =
    let n = at + length p in
    let x = take at out in
    let r = drop n out in
    let whole : x ++ (p ++ r) ≡ (x ++ p) ++ r = sym (append_assoc x p r) in
    let long : length (x ++ p) ≡ n = rw (length-append, length-take-le at out (omega arith)) in
    let first : take n (x ++ (p ++ r)) ≡ x ++ p = ap (take n) whole ∙ take_at (x ++ p) r n long in
    let rest : drop n (x ++ (p ++ r)) ≡ r = ap (drop n) whole ∙ drop_at (x ++ p) r n long in
    let later : drop (n + length q) (x ++ (p ++ r)) ≡ drop (n + length q) out =
    rest_later n (n + length q) (x ++ (p ++ r)) out (omega arith) rest in
    rw (first, later) (append_assoc x p (q ++ drop (n + length q) out))

-- the output has all that is merged up to a place in a and one in b: what they have from there on gives the rest
pub record Copied (a b lent out : List ℕ) (i j : ℕ) : Type 0 where
  pub whole_a : Whole a i
  pub whole_b : Whole b j
  pub ordered : in_order (entries_in (drop j b)) ≡ true
  pub bytes : take (i + j) out ++ index_bytes (merged (entries_in (drop i a)) (entries_in (drop j b))) ≡ index_bytes (merged (entries_in a) (entries_in b))
  pub rest : drop (i + j) out ≡ drop (i + j) lent
  pub size : length out ≡ length lent

module _ (a b lent : List ℕ) (bytesA : are_bytes a ≡ true) (bytesB : are_bytes b ≡ true) (room : length a + length b ≤ length lent) where
  -- b's next entry and those of a in front of it
  next_bytes : (i j : ℕ) (to : Reached) → Whole a i → Whole b j → in_order (entries_in (drop j b)) ≡ true → Next a i b j to
      → index_bytes (merged (entries_in (drop i a)) (entries_in (drop j b)))
      ≡ part a i to.a ++ (part b j to.b ++ index_bytes (merged (entries_in (drop to.a a)) (entries_in (drop to.b b))))
  unfolding index_bytes
  next_bytes i j to v w ordered n =
      let es = entries_in (drop i a) in
      let f = n.entry in
      let fs = entries_in (drop to.b b) in
      let near = front (up_to f) es in
      let k : to.b - j ≡ entry_size f = omega (arith, n.size) in
      let whole : drop j b ≡ entry_bytes f ++ index_bytes fs = sym (whole_bytes b j bytesB w) ∙ ap index_bytes n.entries in
      let own : entry_bytes f ≡ part b j to.b =
      sym (rw k (ap (take (entry_size f)) whole ∙ take_at (entry_bytes f) (index_bytes fs) (entry_size f) (entry_length f))) in
      rw (
        n.entries,
        merged_next es f fs (rw n.entries at ordered),
        index_append near (f ∷ merged (behind (up_to f) es) fs),
        passed_bytes (up_to f) a i to.a bytesA v n.passed,
        own,
        n.passed.rest,
      )

  -- at the start nothing is
  pub copied_from : Whole a 0 → Whole b 0 → in_order (entries_in b) ≡ true → Copied a b lent lent 0 0
  copied_from v w ordered = record { whole_a = v; whole_b = w; ordered = ordered; bytes = refl; rest = refl; size = refl }

  -- b's next entry, behind those of a that are not greater, is
  pub copied_next : (out after : List ℕ) (i j : ℕ) (to : Reached) → Copied a b lent out i j → Next a i b j to
      → after ≡ take (i + j) out ++ (part a i to.a ++ (part b j to.b ++ drop (to.a + to.b) out))
      → Copied a b lent after to.a to.b
  unfolding bytes_in
  copied_next out after i j to c n is =
      let x = take (i + j) out in
      let p = part a i to.a in
      let q = part b j to.b in
      let end = to.a + to.b in
      let front = x ++ (p ++ q) in
      let whole : after ≡ front ++ drop end out = is ∙ sym (append_assoc x (p ++ q) (drop end out) ∙ ap (λ (l : List ℕ). x ++ l) (append_assoc p q (drop end out))) in
      let later : i ≤ to.a = omega (arith, n.passed.place) in
      let room' : i + j ≤ length out = omega (arith, c.whole_a, c.whole_b, c.size) in
      let long : length front ≡ end =
      rw (length-append, length-append, length-take-le (i + j) out room', part_length a i to.a n.passed.within, part_length b j to.b n.within)
      (omega (arith, later, n.size)) in
      let left = rw n.entries at c.whole_b in
      record {
        whole_a = whole_passed _ a i to.a n.passed c.whole_a;
        whole_b = omega (arith, left, n.size);
        ordered = tail_ordered n.entry _ (rw n.entries at c.ordered);
        bytes = rw (whole, take_at front (drop end out) end long, append_assoc x (p ++ q), append_assoc p q)
            (ap (λ (l : List ℕ). x ++ l) (sym (next_bytes i j to c.whole_a c.whole_b c.ordered n)) ∙ c.bytes);
        rest = ap (drop end) whole ∙ drop_at front (drop end out) end long ∙ rest_later (i + j) end out lent (omega (arith, n.size)) c.rest;
        size = ap length whole ∙ rw (length-append, length-drop) (omega (arith, long, n.within, n.passed.within, c.size));
      }

  -- where b has no more, the rest of a ends it
  pub copied_end : (out : List ℕ) (i j : ℕ) → Copied a b lent out i j → length b ≤ j
      → take (i + j) out ++ (part a i (length a) ++ drop (i + j + length (part a i (length a))) out)
      ≡ index_bytes (merged (entries_in a) (entries_in b)) ++ drop (length a + length b) lent
  unfolding merged
  copied_end out i j c h =
      let tail : part a i (length a) ≡ drop i a = take_all (length a - i) (drop i a) (omega (arith, length-drop i a)) in
      let place : i + j + length (drop i a) ≡ length a + length b = omega (arith, length-drop i a, c.whole_a, c.whole_b) in
      let all : take (i + j) out ++ drop i a ≡ index_bytes (merged (entries_in a) (entries_in b)) =
      ap (λ (l : List ℕ). take (i + j) out ++ l) (sym (whole_bytes a i bytesA c.whole_a)) ∙ rw (none_past b j h) at c.bytes in
      rw (tail, place, ← all, append_assoc (take (i + j) out) (drop i a))
      (ap (λ (l : List ℕ). take (i + j) out ++ (drop i a ++ l)) (rest_later (i + j) (length a + length b) out lent (omega (arith, c.whole_a, c.whole_b)) c.rest))
