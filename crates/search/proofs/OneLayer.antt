-- One layer: its costs are exact, and its choices begin the best streams. Assumes nothing.
use Prim.Native.Nat.{ℕ, suc, ◌+◌, ◌-◌, ◌≤◌, ◌<◌, min}
use mathlib.Core.Path.{◌≡◌, refl, sym, ◌∙◌}
use mathlib.Core.Bool.{Bool, true, false, cond}
use mathlib.Core.List.{List, ◌∷◌}
use mathlib.Core.Logic.{◌⊎◌, inl, inr, ⊎_elim}
use native.Mathlib.Omega.{arith}
use borrow.Author.Tests.{eqb-true, eq-eqb, le-leb}
use lib.Dec.{eqb}
use lib.IntN.{ℤ}
use lib.ListN.{length, get_or}
use Rattle.bits.specs.InnerRaised.{from_zero}
use Rattle.tables.specs.declared.Structure.{Structure}
use Rattle.tables.specs.Section2.{table_of}
use Rattle.compiled.specs.InnerForm.{Compiled}
use Rattle.paths.specs.InnerPaths.{Kind, dead, gives, leads, There, Sound, Met, join, cost_behind, cost, Closed, Exact, Chosen, NoValue, Nearest}
use Rattle.paths.proofs.Optimal.{join_met, join_sum, exact, hop, some_tight}
use Rattle.paths.proofs.Layer.{cost_value, cost_switch, met_value, met_none, SwitchesClosed, closed_none, closed_nearest, BeforeSwitches, chosen_none, chosen_nearest}
use Rattle.shortest.specs.InnerRule.{word_of, structure_of, rule}
use Rattle.shortest.proofs.Bridge.{sound}
use Rattle.search.specs.InnerSearch.{cap, count_of, form_in, NoSwitch, Place, at, leap_of, Valued, ValuedTo, AllMet, Settled, Picked, PickedFrom, Layer, NineCosts}
use Rattle.search.proofs.Laws.{counted, count_most, bits_there, leads_there, leap_cost, leap_switch, not_after}

-- ---- one layer: the value x, 131,072 added, before the values vs

module _ {tables : List (List Structure)} {tab : List ℕ} (ready : Compiled tables tab) (n x : ℕ) (vs : List ℤ)
    (next near first costs marks : List ℕ) (all : length tables ≡ n) (E : Exact (rule tables) cap vs (at next))
    (vals : ValuedTo tables next x near first (n + 1))
    (S : Settled tab n first costs)
    (P : (t : ℕ) → 1 ≤ t → t ≤ n → PickedFrom tab first costs t (get_or near (t - 1) 0) (get_or marks (t - 1) 0)) where
  abbrev v : ℤ
  v = from_zero 131072 x

  W : Sound (rule tables)
  W = sound tables ready.right ready.some

  -- table t, what its value's structure is and costs, and what was picked
  module _ (t : ℕ) (ht : There (rule tables) t) where
    within : (1 ≤ t) × (t ≤ 8)
    within = omega (arith, ready.most)

    inside : (k : ℕ) → k < length (table_of tables t) → k < count_of tab t
    inside k hk = omega (arith, counted ready t within)

    its : Valued tables next x t (get_or near (t - 1) 0) (at first t)
    its = vals t ht.0 (omega arith)

    less : at costs t ≤ at first t
    less = S.less t (omega (arith, ready.most))

    shut : SwitchesClosed (rule tables) cap (at next) (at costs) v t
    shut k u hk e =
        rw (← leap_cost ready t within k (inside k hk) costs x u e) (S.shut t ht.0 (omega arith) k (inside k hk))

    closed : Closed (rule tables) cap (at next) (at costs) v t
    closed =
        ⊎_elim
        (λ w. closed_none (rule tables) cap (at next) (at costs) v t w.1 (omega (arith, less, w.2)) shut)
        (λ w. closed_nearest (rule tables) cap (at next) (at costs) v t (get_or near (t - 1) 0) w.0 (omega (arith, less, w.1)) shut)
        its

    met_first : Met (rule tables) cap (v ∷ vs) (at first) t
    met_first =
        ⊎_elim
        (λ w. met_none (rule tables) cap (v ∷ vs) t (at first t) (omega (arith, w.2)))
        (λ w.
        met_value (rule tables) cap v vs t (get_or near (t - 1) 0) (at first t) w.0.inside (at next) (E.met t ht) w.0.serves
        (sym w.1))
        its

  met : AllMet tables v vs costs
  met = S.met tables x vs ready all met_first

  -- a table whose cost is below the cap
  module _ (t : ℕ) (ht : There (rule tables) t) (hc : at costs t < cap) where
    abbrev k₀ : ℕ
    k₀ = get_or near (t - 1) 0

    abbrev r : ℕ
    r = get_or marks (t - 1) 0

    picked : Picked tab costs t (cond (eqb (at first t) (at costs t)) k₀ 64) (count_of tab t) r
    picked = P t ht.0 (omega arith)

    -- where the value's structure makes the cost, it was looked at
    looked : at first t ≡ at costs t → Picked tab costs t k₀ (count_of tab t) r
    looked e = rw (eq-eqb (at first t) (at costs t) e) at picked

    -- some structure makes the cost, so one was picked
    some : r < 64
    some =
        let w = some_tight (rule tables) W cap (at next) (at costs) v vs E closed t ht hc (met t ht) in
        go w.0 w.1 ((rule tables).kind t w.0 v) refl w.2
      where
        value : (k : ℕ) → k < length (table_of tables t) → (rule tables).kind t k v ≡ gives
            → join cap (length (word_of (structure_of tables t k) v)) (at next t) ≡ at costs t
            → ((k₀ ≡ 64) × NoValue (rule tables) v t (length (table_of tables t)) × (at first t ≡ suc cap))
            ⊎ (Nearest (rule tables) v t (length (table_of tables t)) k₀
            × (at first t ≡ join cap (length (word_of (structure_of tables t k₀) v)) (at next t))) → r < 64
        value k hk e q (inl w) = absurd (w.1 k hk e)
        value k hk e q (inr w) =
            let short = w.0.short k hk e in
            let sum = join_sum cap (length (word_of (structure_of tables t k) v)) (at next t) (at costs t) q hc in
            let own : at first t ≡ min cap (length (word_of (structure_of tables t k₀) v) + at next t) =
            rw (le-leb (at next t) cap sum.1) at w.1 in
            let few : k₀ < 64 = omega (arith, w.0.inside, counted ready t (within t ht), count_most ready t (within t ht)) in
            ((looked (omega (arith, sum.0, less t ht))).before few).0

        go : (k : ℕ) → k < length (table_of tables t) → (d : Kind) → (rule tables).kind t k v ≡ d
            → join cap (length (word_of (structure_of tables t k) v)) (cost_behind cap (at next) (at costs) t d) ≡ at costs t → r < 64
        go k hk dead e q =
            absurd (omega (arith, (join_met cap (length (word_of (structure_of tables t k) v)) (suc cap) (at costs t) q (omega arith)).0))
        go k hk gives e q = value k hk e q (its t ht)
        go k hk (leads u) e q =
            (picked.first k (inside t ht k hk) (leap_cost ready t (within t ht) k (inside t ht k hk) costs x u e ∙ q) hc).0

    there : r < count_of tab t
    there = ⊎_elim (λ e. absurd (omega (arith, some))) (λ l. l) picked.place

    hr : r < length (table_of tables t)
    hr = omega (arith, there, counted ready t (within t ht))

    -- what was picked makes the cost
    tight : cost (rule tables) cap (at next) (at costs) v t r ≡ at costs t
    tight = ⊎_elim (λ e. start (eqb (at first t) (at costs t)) refl e (its t ht)) switch picked.from
      where
        switch : leap_of tab costs t r ≡ at costs t → cost (rule tables) cap (at next) (at costs) v t r ≡ at costs t
        switch e =
            let s = leap_switch tab costs t r (omega arith) in
            let to = (form_in tab t r).to in
            cost_switch (rule tables) cap (at next) (at costs) v t r to (leads_there ready t (within t ht) r there x s.0)
            ∙ rw (bits_there ready t (within t ht) r there x) (sym s.1 ∙ e)

        start : (b : Bool) → eqb (at first t) (at costs t) ≡ b → r ≡ cond b k₀ 64 → Valued tables next x t k₀ (at first t)
            → cost (rule tables) cap (at next) (at costs) v t r ≡ at costs t
        start true q e (inl w) = absurd (omega (arith, some, w.0))
        start true q e (inr w) =
            rw e
            (cost_value (rule tables) cap (at next) (at costs) v t k₀ w.0.serves ∙ sym w.1 ∙ eqb-true (at first t) (at costs t) q)
        start false q e w = absurd (omega (arith, some))

    switches : BeforeSwitches (rule tables) cap (at next) (at costs) v t r
    switches j u hj e q =
        let i = inside t ht j hj in
        not_after ready t (within t ht) r j there i v (picked.first j i (leap_cost ready t (within t ht) j i costs x u e ∙ q) hc).1

    chosen : Chosen (rule tables) cap (at next) (at costs) v t r
    chosen =
        ⊎_elim
        (λ w. chosen_none (rule tables) cap (at next) (at costs) v t r hc hr tight w.1 switches)
        (λ w.
        let i = inside t ht k₀ w.0.inside in
        let few : k₀ < 64 = omega (arith, count_most ready t (within t ht)) in
        chosen_nearest (rule tables) cap (at next) (at costs) v t k₀ r hc hr tight w.0 (omega (arith, less t ht, w.1))
        (λ q. not_after ready t (within t ht) r k₀ there i v ((looked (w.1 ∙ q)).before few).1)
        switches)
        (its t ht)

  pub layer_holds : Layer tables (from_zero 131072 x) vs costs marks
  layer_holds = record {
    exact = whole;
    shows = λ t ht s B l.
        hop (rule tables) W cap (at next) (at costs) v vs E closed choice chosen t ht (omega (arith, whole.low t s ht B.reads));
  }
    where
      choice : ℕ → ℕ
      choice t = get_or marks (t - 1) 0

      whole : Exact (rule tables) cap (v ∷ vs) (at costs)
      whole = exact (rule tables) W cap (at next) (at costs) v vs E closed choice chosen met

-- ---- without switches

-- the value's structures are structures of their tables
pub place_valued : {tables : List (List Structure)} {tab : List ℕ} → Compiled tables tab → (next : List ℕ) (x t k c : ℕ) → (1 ≤ t) × (t ≤ 8)
    → Valued tables next x t k c → Place tab t k
place_valued ready next x t k c h w = ⊎_elim (λ z. inl z.0) (λ z. inr (omega (arith, z.0.inside, counted ready t h))) w

module _ (tab : List ℕ) (n : ℕ) (first : List ℕ) (few : n ≤ 8) (nine : NineCosts first)
    (none : NoSwitch tab n) where
  no_leap : (t k : ℕ) → 1 ≤ t → t ≤ n → k < count_of tab t → leap_of tab first t k ≡ suc cap
  no_leap t k a b h = rw (eq-eqb (form_in tab t k).to 0 (none t k a b h))

  -- their costs are settled
  pub settled_first : Settled tab n first first
  settled_first = record {
    nine = nine.0;
    less = λ t h. omega arith;
    shut = λ t a b k h. omega (arith, no_leap t k a b h, nine.1 t (omega arith));
    met = λ tables x vs ready e met. met;
  }

  -- they are the choices
  pub picked_first : (t k : ℕ) → 1 ≤ t → t ≤ n → Place tab t k → PickedFrom tab first first t k k
  picked_first t k a b p =
      rw (eq-eqb (at first t) (at first t) refl) (record {
        place = p;
        from = inl refl;
        before = λ h. (h, omega arith);
        first = λ j h e c. absurd (omega (arith, no_leap t j a b h));
      })
