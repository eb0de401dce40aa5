-- The search is exact: costs that no structure makes smaller, and that some stream meets, are those of the best streams; and a structure
-- that makes the cost, its word the smallest of those that do, begins the best stream. Assumes nothing.
use Prim.Native.Nat.{ℕ, suc, zero, ◌+◌, ◌≤◌, ◌<◌, min}
use mathlib.Core.Path.{◌≡◌, refl, ap, sym, ◌∙◌}
use mathlib.Core.Bool.{Bool, true, false, cond}
use mathlib.Core.List.{List, [], ◌∷◌, ◌++◌}
use mathlib.Core.Logic.{◌⊎◌, inl, inr, ⊎_elim}
use native.Mathlib.Omega.{arith}
use borrow.Author.Tests.{le-leb, leb-true}
use lib.Dec.{leb}
use lib.ListN.{length, length-append}
use Rattle.paths.specs.Before.{Before}
use Rattle.paths.specs.InnerPaths.{Kind, dead, gives, leads, Codes, There, Sound, Reads, done, value, switch, Best}
use Rattle.paths.specs.InnerPaths.{table_behind, values_behind, Alive, Hop, join, cost_behind, cost, Closed, Met, Exact, Chosen}
use Rattle.paths.proofs.Compared.{before_tails, before_under, compared_unique}

-- ---- the capped sum

-- what costs no more than n bits, joined to a code
join_le : (cap bits a n : ℕ) → a ≤ min cap n → join cap bits a ≤ min cap (bits + n)
join_le cap bits a n h = rw (le-leb a cap (omega arith)) (omega arith)

-- a sum up to the cap is that of a cost up to the cap
pub join_met : (cap bits a r : ℕ) → join cap bits a ≡ r → r ≤ cap → (a ≤ cap) × (min cap (bits + a) ≡ r)
join_met cap bits a r e h = go (leb a cap) refl e
  where
    go : (b : Bool) → leb a cap ≡ b → cond b (min cap (bits + a)) (suc cap) ≡ r → (a ≤ cap) × (min cap (bits + a) ≡ r)
    go true q e' = (leb-true a cap q, e')
    go false q e' = absurd (omega arith)

-- a sum below the cap is the sum
pub join_sum : (cap bits a r : ℕ) → join cap bits a ≡ r → r < cap → (bits + a ≡ r) × (a ≤ cap)
join_sum cap bits a r e h = let m = join_met cap bits a r e (omega arith) in (omega (arith, m.1), m.0)

-- ---- one stream

module _ {A : Type 0} (G : Codes A) where
  -- there is one best stream at most
  pub best_unique : (t : ℕ) (vs : List A) (a b : List ℕ) → Best G t vs a → Best G t vs b → a ≡ b
  best_unique t vs a b x y =
      compared_unique a b (x.fewest b y.reads) (y.fewest a x.reads) (x.smaller b y.reads) (y.smaller a x.reads)

  -- a stream's first step: a structure, and what is left behind it
  pub record Step (t : ℕ) (v : A) (vs : List A) (s : List ℕ) : Type 0 where
    pub k : ℕ
    pub inside : k < G.count t
    pub alive : Alive (G.kind t k v)
    pub rest : List ℕ
    pub is : s ≡ G.word t k v ++ rest
    pub left : Reads G (table_behind t (G.kind t k v)) rest (values_behind v vs (G.kind t k v))

  pub split : {t : ℕ} {v : A} {vs : List A} {s : List ℕ} → Reads G t s (v ∷ vs) → Step t v vs s
  split (value k {s = s'} hk e r) = record { k = k; inside = hk; alive = rw e tt; rest = s'; is = refl; left = rw e r }
  split (switch k u {s = s'} hk e r) = record { k = k; inside = hk; alive = rw e tt; rest = s'; is = refl; left = rw e r }

  cons : (t k : ℕ) (v : A) (vs : List A) (s : List ℕ) → k < G.count t → (d : Kind) → G.kind t k v ≡ d → Alive d
      → Reads G (table_behind t d) s (values_behind v vs d) → Reads G t (G.word t k v ++ s) (v ∷ vs)
  cons t k v vs s hk dead e a r = absurd a
  cons t k v vs s hk gives e a r = value k hk e r
  cons t k v vs s hk (leads u) e a r = switch k u hk e r

  -- of no values the empty stream alone is one
  pub nothing_left : {t : ℕ} {s : List ℕ} → Reads G t s [] → [] ≡ s
  nothing_left done = refl

  -- what is asked of costs behind the last value
  pub exact_nil : (cap : ℕ) (c : ℕ → ℕ) → ((t : ℕ) → There G t → c t ≡ 0) → Exact G cap [] c
  exact_nil cap c z = record {
    low = λ t s ht r. omega (arith, z t ht);
    met = λ t ht h. ([], done, omega arith);
    best = λ t ht h. ([], record { reads = done; fewest = λ s r. omega arith; smaller = λ s r e. inl (nothing_left r) }, sym (z t ht));
  }

  -- a cost above the cap: no stream
  pub exact_none : (cap : ℕ) (vs : List A) (c : ℕ → ℕ) → Exact G cap vs c → (t : ℕ) → There G t → cap < c t
      → (s : List ℕ) → Reads G t s vs → ⊥
  exact_none cap vs c E t ht h s r = omega (arith, E.low t s ht r)

-- ---- one layer: the value v before the values vs

module _ {A : Type 0} (G : Codes A) (W : Sound G) (cap : ℕ) (next cur : ℕ → ℕ) where
  -- what a structure costs is at most what any stream costs that begins with it
  along : (t k n : ℕ) (v : A) (d : Kind) → G.kind t k v ≡ d → cost_behind cap next cur t d ≤ min cap n
      → cost G cap next cur v t k ≤ min cap (length (G.word t k v) + n)
  along t k n v d e h = rw e (join_le cap (length (G.word t k v)) (cost_behind cap next cur t d) n h)

  -- closed costs are lower bounds
  pub lower : (v : A) (vs : List A) → ((t : ℕ) → There G t → Closed G cap next cur v t)
      → ((t : ℕ) (s : List ℕ) → There G t → Reads G t s vs → next t ≤ min cap (length s))
      → (t : ℕ) (s : List ℕ) → There G t → Reads G t s (v ∷ vs) → cur t ≤ min cap (length s)
  lower v vs closed low t s ht (value k {s = s'} hk e r) =
      rw length-append (omega (arith, closed t ht k hk, along t k (length s') v gives e (low t s' ht r)))
  lower v vs closed low t s ht (switch k u {s = s'} hk e r) =
      let behind = lower v vs closed low u s' (W.onto t k u v ht hk e) r in
      rw length-append (omega (arith, closed t ht k hk, along t k (length s') v (leads u) e behind))

module _ {A : Type 0} (G : Codes A) (W : Sound G) (cap : ℕ) (next cur : ℕ → ℕ) (v : A) (vs : List A) (E : Exact G cap vs next)
    (closed : (t : ℕ) → There G t → Closed G cap next cur v t) where
  low_cur : (t : ℕ) (s : List ℕ) → There G t → Reads G t s (v ∷ vs) → cur t ≤ min cap (length s)
  low_cur = lower G W cap next cur v vs closed E.low

  low_behind : (t k : ℕ) (s : List ℕ) → There G t → k < G.count t → (d : Kind) → G.kind t k v ≡ d → Alive d
      → Reads G (table_behind t d) s (values_behind v vs d) → cost_behind cap next cur t d ≤ min cap (length s)
  low_behind t k s ht hk dead e a r = absurd a
  low_behind t k s ht hk gives e a r = E.low t s ht r
  low_behind t k s ht hk (leads u) e a r = low_cur u s (W.onto t k u v ht hk e) r

  -- the first step of a stream as short as the cost makes the cost
  tight_first : (t : ℕ) (s : List ℕ) → There G t → cur t < cap → length s ≡ cur t → (p : Step G t v vs s)
      → cost G cap next cur v t p.k ≡ cur t
  tight_first t s ht hc e p =
      let d = G.kind t p.k v in
      let low = low_behind t p.k p.rest ht p.inside d refl p.alive p.left in
      let least = closed t ht p.k p.inside in
      let most = along G W cap next cur t p.k (length p.rest) v d refl low in
      let long : length s ≡ length (G.word t p.k v) + length p.rest = ap length p.is ∙ simp length-append in
      omega arith

  -- the chosen structure, and behind it the best stream
  module _ (t k : ℕ) (s : List ℕ) (ht : There G t) (hc : cur t < cap) (K : Chosen G cap next cur v t k) (a : Alive (G.kind t k v))
      (B : Best G (table_behind t (G.kind t k v)) (values_behind v vs (G.kind t k v)) s)
      (long : length (G.word t k v) + length s ≡ cur t) where
    -- against a stream that begins with the same structure
    same_first : (j : ℕ) (r : List ℕ) → j ≡ k → Reads G (table_behind t (G.kind t j v)) r (values_behind v vs (G.kind t j v))
        → length (G.word t j v) + length r ≡ cur t
        → (G.word t k v ++ s ≡ G.word t j v ++ r) ⊎ Before (G.word t k v ++ s) (G.word t j v ++ r)
    same_first j r q rd l =
        let w = G.word t k v in
        let l' : length w + length r ≡ cur t = rw q at l in
        rw q (⊎_elim (λ x. inl (ap (λ (y : List ℕ). w ++ y) x)) (λ b. inr (before_under w b)) (B.smaller r (rw q at rd) (omega arith)))

    against : (other : List ℕ) → Step G t v vs other → length other ≡ cur t
        → (G.word t k v ++ s ≡ other) ⊎ Before (G.word t k v ++ s) other
    against other p l =
        rw p.is (⊎_elim
        (λ q. same_first p.k p.rest q p.left (simp length-append at (ap length (sym p.is) ∙ l)))
        (λ b. inr (before_tails s p.rest b))
        (K.first p.k p.inside (tight_first t other ht hc l p)))

    best_cons : Best G t (v ∷ vs) (G.word t k v ++ s)
    best_cons = record {
      reads = cons G t k v vs s K.inside (G.kind t k v) refl a B.reads;
      fewest = λ other r. rw length-append (omega (arith, low_cur t other ht r));
      smaller = λ other r l. against other (split G r) (l ∙ simp length-append long);
    }

  -- a structure chosen in each table whose cost is below the cap
  module _ (choice : ℕ → ℕ) (chosen : (t : ℕ) → There G t → cur t < cap → Chosen G cap next cur v t (choice t)) where
    -- from a table on there is a best stream, as long as the cost
    abbrev Made : ℕ → Type 0
    Made u = (s : List ℕ) × Best G u (v ∷ vs) s × (length s ≡ cur u)

    sum : (t : ℕ) → There G t → cur t < cap → (d : Kind) → G.kind t (choice t) v ≡ d
        → (length (G.word t (choice t) v) + cost_behind cap next cur t d ≡ cur t) × (cost_behind cap next cur t d ≤ cap)
    sum t ht hc d e =
        join_sum cap (length (G.word t (choice t) v)) (cost_behind cap next cur t d) (cur t) (rw e at (chosen t ht hc).tight) hc

    alive : (t : ℕ) → There G t → cur t < cap → (d : Kind) → G.kind t (choice t) v ≡ d → Alive d
    alive t ht hc dead e = absurd (omega (arith, sum t ht hc dead e))
    alive t ht hc gives e = tt
    alive t ht hc (leads u) e = tt

    -- the best stream behind the chosen structure; a switch leads to a smaller cost, where the last argument gives it
    onward : (t : ℕ) → There G t → cur t < cap → ((u : ℕ) → There G u → cur u < cur t → Made u) → (d : Kind) → G.kind t (choice t) v ≡ d
        → (s : List ℕ) × Best G (table_behind t d) (values_behind v vs d) s × (length s ≡ cost_behind cap next cur t d)
    onward t ht hc below dead e = absurd (alive t ht hc dead e)
    onward t ht hc below gives e =
        E.best t ht (omega (arith, sum t ht hc gives e, W.some t (choice t) v ht (chosen t ht hc).inside))
    onward t ht hc below (leads u) e =
        below u (W.onto t (choice t) u v ht (chosen t ht hc).inside e)
        (omega (arith, sum t ht hc (leads u) e, W.some t (choice t) v ht (chosen t ht hc).inside))

    hop_by : (t : ℕ) → There G t → cur t < cap → ((u : ℕ) → There G u → cur u < cur t → Made u)
        → (h : Hop G v vs t (choice t)) × (length (G.word t (choice t) v ++ h.rest) ≡ cur t)
    hop_by t ht hc below =
        let k = choice t in
        let d = G.kind t k v in
        let o = onward t ht hc below d refl in
        let a = alive t ht hc d refl in
        let e : length (G.word t k v) + length o.0 ≡ cur t = rw o.2 (sum t ht hc d refl).0 in (
          record {
            inside = (chosen t ht hc).inside;
            alive = a;
            rest = o.0;
            after = o.1;
            whole = best_cons t k o.0 ht hc (chosen t ht hc) a o.1 e;
          },
          simp length-append e,
        )

    -- each code has a bit, so that the cost bounds how many switches there are
    make : (n t : ℕ) → There G t → cur t < cap → cur t < n → Made t
    make zero t ht hc l = absurd (omega arith)
    make (suc n) t ht hc l =
        let h = hop_by t ht hc (λ u hu m. make n u hu (omega arith) (omega arith)) in
        (G.word t (choice t) v ++ h.0.rest, h.0.whole, h.1)

    -- the choice begins the best stream
    pub hop : (t : ℕ) → There G t → cur t < cap → Hop G v vs t (choice t)
    hop t ht hc = (hop_by t ht hc (λ u hu m. make cap u hu (omega arith) (omega arith))).0

    -- closed costs that streams meet are exact
    pub exact : ((t : ℕ) → There G t → Met G cap (v ∷ vs) cur t) → Exact G cap (v ∷ vs) cur
    exact met = record { low = low_cur; met = met; best = λ t ht hc. make cap t ht hc hc }

  -- where a stream meets a cost below the cap, some structure makes the cost
  pub some_tight : (t : ℕ) → There G t → cur t < cap → Met G cap (v ∷ vs) cur t
      → (k : ℕ) × (k < G.count t) × (cost G cap next cur v t k ≡ cur t)
  some_tight t ht hc m =
      let w = m (omega arith) in
      let p = split G w.1 in
      (p.k, p.inside, tight_first t w.0 ht hc (omega (arith, low_cur t w.0 ht w.1, w.2)) p)
