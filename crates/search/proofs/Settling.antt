-- Switches make costs smaller, in rounds, until no table changes. Assumes nothing.
use Prim.Native.Nat.{ℕ, zero, suc, ◌+◌, ◌≤◌, ◌<◌, min}
use mathlib.Core.Path.{◌≡◌, refl, sym, ◌∙◌}
use mathlib.Core.List.{List, [], ◌∷◌}
use mathlib.Core.Logic.{◌⊎◌, inl, inr, ⊎_elim}
use native.Mathlib.Decide.{ℕ_discrete, dec_lt}
use native.Mathlib.Nat.{eq-or-lt_of_le}
use native.Mathlib.Omega.{arith}
use borrow.Author.Count.{below_more}
use lib.IntN.{ℤ}
use lib.ListN.{length, get_or, set}
use lib.Seq.{get_or-set_same, get_or-set_other}
use Rattle.bits.specs.InnerRaised.{from_zero}
use Rattle.tables.specs.declared.Structure.{Structure}
use Rattle.tables.specs.Section2.{table_of}
use Rattle.compiled.specs.InnerForm.{Compiled}
use Rattle.paths.specs.InnerPaths.{There, Reads, MetBy, Met}
use Rattle.paths.proofs.Layer.{met_switch}
use Rattle.shortest.specs.InnerRule.{rule}
use Rattle.shortest.proofs.Bridge.{sound}
use Rattle.search.specs.InnerSearch.{cap, count_of, form_in, at, leap_of, LeastOf, Shut, AllMet}
use Rattle.search.proofs.Laws.{counted, bits_there, leads_there, leap_switch}

-- a loop that finds the least of f's values
module _ (f : ℕ → ℕ) where
  pub least_none : LeastOf f 0 (suc cap)
  least_none = record { low = λ k h. absurd (omega arith); hit = inl refl }

  least_new : (m r e : ℕ) → e ≡ f m → e < r → LeastOf f m r → LeastOf f (m + 1) e
  least_new m r e q l h = record {
    low = below_more _ m (λ k hk. omega (arith, h.low k hk)) (omega arith);
    hit = inr (m, omega arith, sym q);
  }

  least_old : (m r e : ℕ) → e ≡ f m → r ≤ e → LeastOf f m r → LeastOf f (m + 1) r
  least_old m r e q l h = record {
    low = below_more _ m h.low (omega arith);
    hit = ⊎_elim inl (λ w. inr (w.0, omega (arith, w.1), w.2)) h.hit;
  }

  pub least_min : (m r e x : ℕ) → e ≡ f m → x ≡ min r e → LeastOf f m r → LeastOf f (m + 1) x
  least_min m r e x q z h = go (dec_lt e r)
    where
      go : Dec (e < r) → LeastOf f (m + 1) x
      go (yes l) = let s : x ≡ e = omega arith in rw s (least_new m r e q l h)
      go (no l) = let s : x ≡ r = omega arith in rw s (least_old m r e q (omega arith) h)

-- the sum of a list falls where an element does
pub total : List ℕ → ℕ
total [] = 0
total (x ∷ xs) = x + total xs

pub total_set : (xs : List ℕ) (i r : ℕ) → i < length xs → r < get_or xs i 0 → total (set xs i r) < total xs
unfolding total
total_set [] i r h l = absurd (omega arith)
total_set (x ∷ xs) zero r h l = omega arith
total_set (x ∷ xs) (suc i) r h l = omega (arith, total_set xs i r (omega arith) l)

-- the last `quiet` tables before t, round the n tables, are shut
pub record Quiet (tab : List ℕ) (n : ℕ) (costs : List ℕ) (t quiet : ℕ) : Type 0 where
  pub behind : (u : ℕ) → 1 ≤ u → u < t → t ≤ u + quiet → Shut tab costs u
  pub around : (u : ℕ) → t ≤ u → u ≤ n → t + n ≤ u + quiet → Shut tab costs u

pub quiet_none : (tab : List ℕ) (n : ℕ) (costs : List ℕ) (t : ℕ) → 1 ≤ t → Quiet tab n costs t 0
quiet_none tab n costs t h = record { behind = λ u a b c. absurd (omega arith); around = λ u a b c. absurd (omega arith) }

pub quiet_more : (tab : List ℕ) (n : ℕ) (costs : List ℕ) (t quiet next : ℕ) → t ≤ n
    → ((t < n) × (next ≡ t + 1)) ⊎ ((t ≡ n) × (next ≡ 1)) → Shut tab costs t
    → Quiet tab n costs t quiet → Quiet tab n costs next (quiet + 1)
quiet_more tab n costs t quiet next h step shut q = ⊎_elim on over step
  where
    near : (u : ℕ) → 1 ≤ u → u ≤ t → t ≤ u + quiet → Shut tab costs u
    near u a b c = ⊎_elim (λ e. rw e shut) (λ l. q.behind u a l c) (eq-or-lt_of_le b)

    on : (t < n) × (next ≡ t + 1) → Quiet tab n costs next (quiet + 1)
    on w = record {
      behind = λ u a b c. near u a (omega (arith, w.1)) (omega (arith, w.1));
      around = λ u a b c. q.around u (omega (arith, w.1)) b (omega (arith, w.1));
    }

    over : (t ≡ n) × (next ≡ 1) → Quiet tab n costs next (quiet + 1)
    over w = record {
      behind = λ u a b c. absurd (omega (arith, w.1));
      around = λ u a b c. near u (omega (arith, w.1)) (omega (arith, w.0)) (omega (arith, w.0, w.1));
    }

pub quiet_all : (tab : List ℕ) (n : ℕ) (costs : List ℕ) (t quiet : ℕ) → t ≤ n → n ≤ quiet → Quiet tab n costs t quiet
    → (u : ℕ) → 1 ≤ u → u ≤ n → Shut tab costs u
quiet_all tab n costs t quiet h l q u a b = go (dec_lt u t)
  where
    go : Dec (u < t) → Shut tab costs u
    go (yes m) = q.behind u a m (omega arith)
    go (no m) = q.around u (omega arith) b (omega arith)

-- a table's cost made smaller
module _ (costs : List ℕ) (t r : ℕ) (ht : t < length costs) (l : r < at costs t) where
  pub set_less : (u : ℕ) → at (set costs t r) u ≤ at costs u
  set_less u = go (ℕ_discrete u t)
    where
      go : Dec (u ≡ t) → at (set costs t r) u ≤ at costs u
      go (yes e) = rw e (rw (get_or-set_same costs t r 0 ht) (omega arith))
      go (no n) = rw (get_or-set_other costs t u r 0 n) (omega arith)

-- streams meet the least that a switch costs
module _ {tables : List (List Structure)} {tab : List ℕ} (ready : Compiled tables tab) (costs : List ℕ) (t r x : ℕ) (vs : List ℤ)
    (ht : There (rule tables) t) (room : t < length costs) (L : LeastOf (leap_of tab costs t) (count_of tab t) r)
    (met : AllMet tables (from_zero 131072 x) vs costs) where
  within : (1 ≤ t) × (t ≤ 8)
  within = omega (arith, ready.most)

  met_least : MetBy (rule tables) cap (from_zero 131072 x ∷ vs) t r
  met_least h = ⊎_elim (λ e. absurd (omega arith)) switch L.hit
    where
      switch : (w : (k : ℕ) × (k < count_of tab t) × (leap_of tab costs t k ≡ r))
          → (s : List ℕ) × Reads (rule tables) t s (from_zero 131072 x ∷ vs) × (min cap (length s) ≤ r)
      switch w =
          let k = w.0 in
          let s = leap_switch tab costs t k (omega (arith, w.2)) in
          let u = (form_in tab t k).to in
          let hk : k < length (table_of tables t) = omega (arith, w.1, counted ready t within) in
          let e = leads_there ready t within k w.1 x s.0 in
          met_switch (rule tables) cap (from_zero 131072 x) vs t k r hk (at costs) u
          (met u ((sound tables ready.right ready.some).onto t k u (from_zero 131072 x) ht hk e)) e
          (rw (bits_there ready t within k w.1 x) (sym s.1 ∙ w.2)) h

  pub met_set : AllMet tables (from_zero 131072 x) vs (set costs t r)
  met_set u hu = go (ℕ_discrete u t)
    where
      go : Dec (u ≡ t) → Met (rule tables) cap (from_zero 131072 x ∷ vs) (at (set costs t r)) u
      go (yes e) = rw e (rw (get_or-set_same costs t r 0 room) met_least)
      go (no n) = rw (get_or-set_other costs t u r 0 n) (met u hu)
