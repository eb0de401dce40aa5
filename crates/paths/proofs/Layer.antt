-- In a layer the search looks at enough: of each table one structure that gives the value, and the switches. All structures of a table
-- that give the value lead to the same place, so the shortest of their words costs least. Assumes nothing.
use Prim.Native.Nat.{ℕ, suc, ◌+◌, ◌≤◌, ◌<◌, min}
use mathlib.Core.Path.{◌≡◌, refl, ◌∙◌}
use mathlib.Core.Bool.{Bool, true, false, cond}
use mathlib.Core.List.{List, ◌∷◌, ◌++◌}
use mathlib.Core.Logic.{inl, inr, ⊎_elim}
use native.Mathlib.Omega.{arith}
use borrow.Author.Count.{below_more}
use borrow.Author.Tests.{lt-leb}
use lib.Dec.{leb}
use lib.ListN.{length, length-append}
use Rattle.paths.specs.Before.{Before}
use Rattle.paths.specs.InnerPaths.{Kind, dead, gives, leads, Codes, value, switch, join, cost_behind}
use Rattle.paths.specs.InnerPaths.{cost, Closed, MetBy, Met, NotAfter, Chosen, NoValue, Nearest}
use Rattle.paths.proofs.Compared.{before_trans}
use Rattle.paths.proofs.Optimal.{join_met, join_sum}

-- a longer code costs no less
join_longer : (cap bits more a : ℕ) → bits ≤ more → join cap bits a ≤ join cap more a
join_longer cap bits more a h = go (leb a cap)
  where
    go : (b : Bool) → cond b (min cap (bits + a)) (suc cap) ≤ cond b (min cap (more + a)) (suc cap)
    go true = omega arith
    go false = omega arith

-- no sum is above the cost that says that there is no stream
pub join_most : (cap bits a : ℕ) → join cap bits a ≤ suc cap
join_most cap bits a = go (leb a cap)
  where
    go : (b : Bool) → cond b (min cap (bits + a)) (suc cap) ≤ suc cap
    go true = omega arith
    go false = omega arith

-- ---- what a structure costs, by what it does

module _ {A : Type 0} (G : Codes A) (cap : ℕ) (next cur : ℕ → ℕ) (v : A) (t k : ℕ) where
  pub cost_value : G.kind t k v ≡ gives → cost G cap next cur v t k ≡ join cap (length (G.word t k v)) (next t)
  cost_value e = rw e

  pub cost_switch : (u : ℕ) → G.kind t k v ≡ leads u → cost G cap next cur v t k ≡ join cap (length (G.word t k v)) (cur u)
  cost_switch u e = rw e

-- ---- some stream meets what a structure costs

module _ {A : Type 0} (G : Codes A) (cap : ℕ) (v : A) (vs : List A) (t k r : ℕ) (hk : k < G.count t) where
  pub met_value : (next : ℕ → ℕ) → Met G cap vs next t → G.kind t k v ≡ gives → join cap (length (G.word t k v)) (next t) ≡ r
      → MetBy G cap (v ∷ vs) t r
  met_value next met e j h =
      let m = join_met cap (length (G.word t k v)) (next t) r j h in
      let w = met m.0 in
      (G.word t k v ++ w.0, value k hk e w.1, rw length-append (omega (arith, m.1, w.2)))

  pub met_switch : (cur : ℕ → ℕ) (u : ℕ) → Met G cap (v ∷ vs) cur u → G.kind t k v ≡ leads u
      → join cap (length (G.word t k v)) (cur u) ≡ r → MetBy G cap (v ∷ vs) t r
  met_switch cur u met e j h =
      let m = join_met cap (length (G.word t k v)) (cur u) r j h in
      let w = met m.0 in
      (G.word t k v ++ w.0, switch k u hk e w.1, rw length-append (omega (arith, m.1, w.2)))

-- a cost that says that there is no stream need not be met
pub met_none : {A : Type 0} (G : Codes A) (cap : ℕ) (vs : List A) (t r : ℕ) → cap < r → MetBy G cap vs t r
met_none G cap vs t r h l = absurd (omega arith)

-- ---- the value's structure, found by looking at one structure after another

module _ {A : Type 0} (G : Codes A) (v : A) (t : ℕ) where
  pub value_start : NoValue G v t 0
  value_start j h e = omega arith

  -- structure m is the first that gives the value
  pub nearest_first : (m : ℕ) → NoValue G v t m → G.kind t m v ≡ gives → Nearest G v t (m + 1) m
  nearest_first m none e = record {
    inside = omega arith;
    serves = e;
    short = below_more _ m (λ j h g. absurd (none j h g)) (λ g. omega arith);
    first = below_more _ m (λ j h g l. absurd (none j h g)) (λ g l. inl refl);
  }

  -- structure m does not give it
  pub none_more : (m : ℕ) → NoValue G v t m → (G.kind t m v ≡ gives → ⊥) → NoValue G v t (m + 1)
  none_more m none n = below_more _ m none n

  pub nearest_more : (m k : ℕ) → Nearest G v t m k → (G.kind t m v ≡ gives → ⊥) → Nearest G v t (m + 1) k
  nearest_more m k N n = record {
    inside = omega (arith, N.inside);
    serves = N.serves;
    short = below_more _ m N.short (λ g. absurd (n g));
    first = below_more _ m N.first (λ g l. absurd (n g));
  }

  -- its word is longer, or as long and not smaller
  pub nearest_keep : (m k : ℕ) → Nearest G v t m k → length (G.word t k v) ≤ length (G.word t m v)
      → (length (G.word t m v) ≡ length (G.word t k v) → NotAfter G v t k m) → Nearest G v t (m + 1) k
  nearest_keep m k N l f = record {
    inside = omega (arith, N.inside);
    serves = N.serves;
    short = below_more _ m N.short (λ g. l);
    first = below_more _ m N.first (λ g. f);
  }

  -- structures that are not before k are not before one whose word is smaller
  pub not_after_less : (k m j : ℕ) → Before (G.word t m v) (G.word t k v) → NotAfter G v t k j → NotAfter G v t m j
  not_after_less k m j b n = inr (⊎_elim (λ e. rw e b) (λ c. before_trans b c) n)

  -- its word is shorter, or as long and smaller
  pub nearest_take : (m k : ℕ) → Nearest G v t m k → G.kind t m v ≡ gives → length (G.word t m v) ≤ length (G.word t k v)
      → (length (G.word t m v) ≡ length (G.word t k v) → Before (G.word t m v) (G.word t k v)) → Nearest G v t (m + 1) m
  nearest_take m k N e l f = record {
    inside = omega arith;
    serves = e;
    short = below_more _ m (λ j h g. omega (arith, N.short j h g)) (λ g. omega arith);
    first = below_more _ m (λ j h g q. earlier j h g q) (λ g q. inl refl);
  }
    where
      earlier : (j : ℕ) → j < m → G.kind t j v ≡ gives → length (G.word t j v) ≡ length (G.word t m v) → NotAfter G v t m j
      earlier j h g q =
          let s = N.short j h g in
          not_after_less k m j (f (omega arith)) (N.first j h g (omega arith))

-- ---- that structure and the switches are enough

-- where there is no stream behind a code, there is none
join_dead : (cap bits : ℕ) → join cap bits (suc cap) ≡ suc cap
join_dead cap bits = rw (lt-leb (suc cap) cap (omega arith))

module _ {A : Type 0} (G : Codes A) (cap : ℕ) (next cur : ℕ → ℕ) (v : A) (t : ℕ) where
  -- no switch makes the cost smaller
  abbrev pub SwitchesClosed : Type 0
  SwitchesClosed = (k u : ℕ) → k < G.count t → G.kind t k v ≡ leads u → cur t ≤ join cap (length (G.word t k v)) (cur u)

  closed_kinds : cur t ≤ suc cap
      → ((k : ℕ) → k < G.count t → G.kind t k v ≡ gives → cur t ≤ join cap (length (G.word t k v)) (next t))
      → SwitchesClosed → Closed G cap next cur v t
  closed_kinds most values switches k hk = go (G.kind t k v) refl
    where
      go : (d : Kind) → G.kind t k v ≡ d → cur t ≤ join cap (length (G.word t k v)) (cost_behind cap next cur t d)
      go dead e = rw (join_dead cap (length (G.word t k v))) most
      go gives e = values k hk e
      go (leads u) e = switches k u hk e

  pub closed_none : NoValue G v t (G.count t) → cur t ≤ suc cap → SwitchesClosed → Closed G cap next cur v t
  closed_none none most switches = closed_kinds most (λ k hk e. absurd (none k hk e)) switches

  pub closed_nearest : (b : ℕ) → Nearest G v t (G.count t) b → cur t ≤ join cap (length (G.word t b v)) (next t) → SwitchesClosed
      → Closed G cap next cur v t
  closed_nearest b N l switches =
      let w = length (G.word t b v) in
      closed_kinds
      (omega (arith, join_most cap w (next t)))
      (λ k hk e. omega (arith, join_longer cap w (length (G.word t k v)) (next t) (N.short k hk e)))
      switches

  -- structure k is not after any switch that makes the cost
  abbrev pub BeforeSwitches : ℕ → Type 0
  BeforeSwitches k =
      (j u : ℕ) → j < G.count t → G.kind t j v ≡ leads u → join cap (length (G.word t j v)) (cur u) ≡ cur t → NotAfter G v t k j

  chosen_kinds : (k : ℕ) → cur t < cap → k < G.count t → cost G cap next cur v t k ≡ cur t
      → ((j : ℕ) → j < G.count t → G.kind t j v ≡ gives → join cap (length (G.word t j v)) (next t) ≡ cur t → NotAfter G v t k j)
      → BeforeSwitches k → Chosen G cap next cur v t k
  chosen_kinds k hc hk e values switches = record { inside = hk; tight = e; first = λ j hj. go j hj (G.kind t j v) refl }
    where
      go : (j : ℕ) → j < G.count t → (d : Kind) → G.kind t j v ≡ d
          → join cap (length (G.word t j v)) (cost_behind cap next cur t d) ≡ cur t → NotAfter G v t k j
      go j hj dead q l = absurd (omega (arith, join_dead cap (length (G.word t j v)), l))
      go j hj gives q l = values j hj q l
      go j hj (leads u) q l = switches j u hj q l

  pub chosen_none : (k : ℕ) → cur t < cap → k < G.count t → cost G cap next cur v t k ≡ cur t → NoValue G v t (G.count t)
      → BeforeSwitches k → Chosen G cap next cur v t k
  chosen_none k hc hk e none switches = chosen_kinds k hc hk e (λ j hj g. absurd (none j hj g)) switches

  pub chosen_nearest : (b k : ℕ) → cur t < cap → k < G.count t → cost G cap next cur v t k ≡ cur t → Nearest G v t (G.count t) b
      → cur t ≤ join cap (length (G.word t b v)) (next t)
      → (join cap (length (G.word t b v)) (next t) ≡ cur t → NotAfter G v t k b) → BeforeSwitches k → Chosen G cap next cur v t k
  chosen_nearest b k hc hk e N l f switches = chosen_kinds k hc hk e values switches
    where
      through : (j : ℕ) → NotAfter G v t k b → NotAfter G v t b j → NotAfter G v t k j
      through j n m =
          ⊎_elim
          (λ q. ⊎_elim (λ p. inl (q ∙ p)) (λ p. inr (rw q p)) n)
          (λ q. ⊎_elim (λ p. inr (rw p at q)) (λ p. inr (before_trans p q)) n)
          m

      values : (j : ℕ) → j < G.count t → G.kind t j v ≡ gives → join cap (length (G.word t j v)) (next t) ≡ cur t → NotAfter G v t k j
      values j hj g q =
          let wb = length (G.word t b v) in
          let wj = length (G.word t j v) in
          let short = N.short j hj g in
          let less = join_longer cap wb wj (next t) short in
          let tight : join cap wb (next t) ≡ cur t = omega arith in
          let sb = join_sum cap wb (next t) (cur t) tight hc in
          let sj = join_sum cap wj (next t) (cur t) q hc in
          through j (f tight) (N.first j hj g (omega (arith, sb.0, sj.0)))
