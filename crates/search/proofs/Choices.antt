-- Choices: the structure of the smallest word among those that make a cost, picked by looking at one after another. Assumes nothing.
use Prim.Native.Nat.{ℕ, ◌+◌, ◌-◌, ◌≤◌, ◌<◌}
use mathlib.Core.Path.{◌≡◌, refl, ◌∙◌}
use mathlib.Core.List.{List}
use mathlib.Core.Logic.{inl, inr, ⊎_elim}
use native.Mathlib.Decide.{dec_lt}
use native.Mathlib.Omega.{arith}
use borrow.Author.Count.{below_more}
use lib.ListN.{length, get_or, set}
use lib.Seq.{get_or-set_same, get_or-set_other}
use Rattle.search.specs.InnerSearch.{count_of, Place, at, leap_of, Smaller, Picked, PickedFrom}

module _ (tab costs : List ℕ) (t start : ℕ) where
  pub picked_start : Place tab t start → Picked tab costs t start 0 start
  picked_start p = record { place = p; from = inl refl; before = λ h. (h, omega arith); first = λ j h. absurd (omega arith) }

  -- the structure does not cost what the table does
  pub picked_skip : (m r : ℕ) → (leap_of tab costs t m ≡ at costs t → ⊥) → Picked tab costs t start m r
      → Picked tab costs t start (m + 1) r
  picked_skip m r n p = record {
    place = p.place;
    from = p.from;
    before = p.before;
    first = below_more _ m p.first (λ e. absurd (n e));
  }

  -- it does
  pub picked_more : (m best r : ℕ) → count_of tab t ≤ 64 → leap_of tab costs t m ≡ at costs t → Smaller tab t m best r
      → Picked tab costs t start m best → Picked tab costs t start (m + 1) r
  picked_more m best r few e s p = record {
    place = inr s.there;
    from = ⊎_elim (λ q. inr (rw q e)) (λ q. rw q p.from) s.one;
    before = λ h. let b = p.before h in (room, omega (arith, b.1, s.other b.0));
    first = below_more _ m (λ j h q c. let b = p.first j h q c in (room, omega (arith, b.1, s.other b.0))) (λ q c. (room, s.first));
  }
    where
      room : r < 64
      room = omega (arith, s.there)

-- the marks of the tables before t are picked, the others are as they were
pub record MarkedTo (tab first costs before marks : List ℕ) (n t : ℕ) : Type 0 where
  pub done : (u : ℕ) → 1 ≤ u → u < t → PickedFrom tab first costs u (get_or before (u - 1) 0) (get_or marks (u - 1) 0)
  pub same : (u : ℕ) → t ≤ u → u ≤ n → get_or marks (u - 1) 0 ≡ get_or before (u - 1) 0

pub marked_start : (tab first costs marks : List ℕ) (n : ℕ) → MarkedTo tab first costs marks marks n 1
marked_start tab first costs marks n = record { done = λ u a b. absurd (omega arith); same = λ u a b. refl }

pub marked_more : (tab first costs before marks : List ℕ) (n t r : ℕ) → 1 ≤ t → t ≤ n → length marks ≡ n
    → MarkedTo tab first costs before marks n t → PickedFrom tab first costs t (get_or marks (t - 1) 0) r
    → MarkedTo tab first costs before (set marks (t - 1) r) n (t + 1)
marked_more tab first costs before marks n t r h l e m p = record {
  done = λ u a b. go u a b (dec_lt u t);
  same = λ u a b. get_or-set_other marks (t - 1) (u - 1) r 0 (λ q. absurd (omega arith)) ∙ m.same u (omega arith) b;
}
  where
    go : (u : ℕ) → 1 ≤ u → u < t + 1 → Dec (u < t)
        → PickedFrom tab first costs u (get_or before (u - 1) 0) (get_or (set marks (t - 1) r) (u - 1) 0)
    go u a b (yes z) = rw (get_or-set_other marks (t - 1) (u - 1) r 0 (λ q. absurd (omega arith))) (m.done u a z)
    go u a b (no z) =
        let q : u ≡ t = omega arith in
        rw q (rw (get_or-set_same marks (t - 1) r 0 (omega arith)) (rw (m.same t (omega arith) l) at p))
