-- The numbers of a table, and what they say of its rule. Assumes nothing.
use Prim.Native.Nat.{ℕ, suc, ◌+◌, ◌-◌, ◌*◌, ◌^◌, ◌≤◌, ◌<◌}
use mathlib.Core.Path.{◌≡◌, refl, sym, ap, ◌∙◌}
use mathlib.Core.Bool.{true}
use mathlib.Core.List.{List}
use mathlib.Core.Logic.{⊎_elim}
use native.Mathlib.Decide.{ℕ_discrete}
use native.Mathlib.Omega.{arith}
use borrow.Author.Tests.{eq-eqb, ne_eqb}
use lib.IntN.{ℤ}
use lib.ListN.{length}
use lib.Pow.{shl_lt}
use Rattle.bits.specs.InnerRaised.{from_zero}
use Rattle.tables.specs.declared.Structure.{Structure}
use Rattle.tables.specs.Structures.{structure_right}
use Rattle.tables.specs.Section2.{table_of}
use Rattle.tables.proofs.Laws.{fine}
use Rattle.compiled.specs.declared.Form.{Form}
use Rattle.compiled.specs.InnerForm.{form_of, Compiled}
use Rattle.compiled.proofs.Laws.{FineForm, held_count, held_form, held_right, held_fine}
use Rattle.reading.proofs.Laws.{table_at}
use Rattle.paths.specs.InnerPaths.{leads, join, NotAfter}
use Rattle.shortest.specs.InnerRule.{kind_of, word_of, structure_of, rule}
use Rattle.shortest.proofs.Laws.{leads_switch}
use Rattle.shortest.proofs.Forms.{form_leads, form_length, rank_not_after}
use Rattle.search.specs.InnerSearch.{cap, count_of, form_in, bits_of, rank_in, Small, Place, at, leap_of}

module _ {tables : List (List Structure)} {tab : List ℕ} (ready : Compiled tables tab) (t : ℕ) (h : (1 ≤ t) × (t ≤ 8)) where
  pub counted : count_of tab t ≡ length (table_of tables t)
  counted = (ready.says (t - 1) (omega arith)).count ∙ ap length (sym (table_at tables t h.0))

  pub count_most : count_of tab t ≤ 64
  count_most = held_count ready (t - 1) (omega arith)

  module _ (k : ℕ) (hk : k < count_of tab t) where
    pub form_there : form_of (structure_of tables t k) ≡ form_in tab t k
    form_there = rw (table_at tables t h.0) (sym (held_form ready (t - 1) (omega arith) k hk))

    pub right_there : structure_right 8 (structure_of tables t k) ≡ true
    right_there = rw (table_at tables t h.0) (held_right ready (t - 1) (omega arith) k hk)

    pub small_there : (structure_of tables t k).base < 65536
    small_there = rw (table_at tables t h.0) (ready.two_bytes (t - 1) k)

    pub fine_there : FineForm (form_in tab t k)
    fine_there = held_fine ready (t - 1) (omega arith) k hk

    pub bits_there : (x : ℕ) → length (word_of (structure_of tables t k) (from_zero 131072 x)) ≡ bits_of tab t k
    bits_there x = form_length 8 (structure_of tables t k) right_there small_there (form_in tab t k) form_there x

    -- a switch, both ways
    pub leads_there : (x : ℕ) → ((form_in tab t k).to ≡ 0 → ⊥)
        → kind_of (structure_of tables t k) (from_zero 131072 x) ≡ leads (form_in tab t k).to
    leads_there x = form_leads 8 (structure_of tables t k) right_there small_there (form_in tab t k) form_there x

    to_there : (v : ℤ) (u : ℕ) → kind_of (structure_of tables t k) v ≡ leads u → ((form_in tab t k).to ≡ u) × (1 ≤ u)
    unfolding form_of
    to_there v u e =
        let c = structure_of tables t k in
        let s = leads_switch c v u e in
        let to : (form_of c).to ≡ u = rw (eq-eqb c.mode 0 s.0) s.1 in
        (sym (ap (λ (f : Form). f.to) form_there) ∙ to, omega (arith, (fine 8 c right_there).switch s.0, s.1))

    -- what it costs as a switch
    pub leap_cost : (costs : List ℕ) (x u : ℕ) → kind_of (structure_of tables t k) (from_zero 131072 x) ≡ leads u
        → leap_of tab costs t k ≡ join cap (length (word_of (structure_of tables t k) (from_zero 131072 x))) (at costs u)
    leap_cost costs x u e =
        let s = to_there (from_zero 131072 x) u e in
        rw (ne_eqb (form_in tab t k).to 0 (λ z. absurd (omega (arith, s.0, s.1))), s.0, bits_there x)

  module _ (j k : ℕ) (hj : j < count_of tab t) (hk : k < count_of tab t) where
    -- the word of the lower place is the smaller
    pub not_after : (v : ℤ) → rank_in tab t j ≤ rank_in tab t k → NotAfter (rule tables) v t j k
    not_after v l =
        rank_not_after (length tables) tables ready.right t j k (omega (arith, counted)) (omega (arith, counted)) v
        (rw (form_there j hj, form_there k hk) l)

-- the forms of a table are small
pub small_forms : {tables : List (List Structure)} {tab : List ℕ} → Compiled tables tab → (t : ℕ) → (1 ≤ t) × (t ≤ 8) → (k : ℕ)
    → k < count_of tab t → Small (form_in tab t k)
small_forms ready t h k hk = let f = fine_there ready t h k hk in (f.most, f.rest, f.to, f.word)

-- a word's place has 32 bits
pub rank_small : (f : Form) → Small f → f.word * 2 ^ (32 - f.prefix) < 4294967296
rank_small f h =
    let e : f.prefix + (32 - f.prefix) ≡ 32 = omega (arith, h.0) in
    rw e at (shl_lt f.prefix (32 - f.prefix) h.3)

-- what a form costs as a switch
module _ (tab costs : List ℕ) (t k : ℕ) (f : Form) (e : f ≡ form_in tab t k) where
  pub leap_none : f.to ≡ 0 → suc cap ≡ leap_of tab costs t k
  leap_none z = rw (← e) (rw (eq-eqb f.to 0 z) refl)

  pub leap_some : (f.to ≡ 0 → ⊥) → join cap (f.prefix + f.remainder) (at costs f.to) ≡ leap_of tab costs t k
  leap_some n = rw (← e) (rw (ne_eqb f.to 0 n) refl)

-- a structure's number, or 64 for none
pub place_small : (tab : List ℕ) (t k : ℕ) → count_of tab t ≤ 64 → Place tab t k → k ≤ 64
place_small tab t k h p = ⊎_elim (λ e. omega arith) (λ l. omega arith) p

pub place_most : {tables : List (List Structure)} {tab : List ℕ} → Compiled tables tab → (t k : ℕ) → (1 ≤ t) × (t ≤ 8) → Place tab t k
    → k ≤ 64
place_most ready t k h p = ⊎_elim (λ e. omega arith) (λ l. omega (arith, count_most ready t h)) p

-- a cost up to the cap is that of a switch
pub leap_switch : (tab costs : List ℕ) (t k : ℕ) → leap_of tab costs t k ≤ cap
    → ((form_in tab t k).to ≡ 0 → ⊥) × (leap_of tab costs t k ≡ join cap (bits_of tab t k) (at costs (form_in tab t k).to))
leap_switch tab costs t k h = go (ℕ_discrete (form_in tab t k).to 0)
  where
    go : Dec ((form_in tab t k).to ≡ 0)
        → ((form_in tab t k).to ≡ 0 → ⊥) × (leap_of tab costs t k ≡ join cap (bits_of tab t k) (at costs (form_in tab t k).to))
    go (yes e) = let z : suc cap ≤ cap = rw (eq-eqb (form_in tab t k).to 0 e) at h in absurd (omega arith)
    go (no n) = (n, rw (ne_eqb (form_in tab t k).to 0 n))
