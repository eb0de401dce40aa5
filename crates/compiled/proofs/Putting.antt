-- Putting forms, tables and all tables into the numbers: what the proofs of this crate's functions cite. Assumes nothing.
use Prim.Native.Nat.{ℕ, zero, suc, ◌+◌, ◌-◌, ◌*◌, ◌≤◌, ◌<◌}
use mathlib.Core.Path.{◌≡◌, refl, sym, ap, ◌∙◌}
use mathlib.Core.Bool.{true}
use mathlib.Core.List.{List, [], ◌∷◌, ◌++◌}
use mathlib.Core.Logic.{◌⊎◌, inl, inr, ⊎_elim}
use native.Mathlib.Omega.{arith}
use native.Mathlib.Decide.{dec_lt}
use borrow.Author.Count.{below_more}
use borrow.Author.Tests.{ltb-true}
use lib.Dec.{ltb}
use lib.ListN.{length, get_or, set, take, drop, length-set, get_or-append, get_or-eq_default}
use lib.Seq.{length-take-le, get_or-take, get_or-drop, get_or-append-add, get_or-set_same, get_or-set_other, drop-drop}
use Rattle.wire.specs.Numbers.{number_at}
use Rattle.wire.specs.RuleWords.{every}
use Rattle.tables.specs.declared.Structure.{Structure}
use Rattle.tables.specs.Structures.{structure_at, structures_at, no_structure}
use Rattle.tables.specs.Default.{default_table, two_values, valued}
use Rattle.tables.specs.Section2.{table_at, after_table, tables_from, table_right}
use Rattle.wire.proofs.Every.{every_at}
use Rattle.tables.proofs.Laws.{right_at, tables_cons}
use Rattle.compiled.specs.declared.Form.{Form}
use Rattle.compiled.specs.InnerForm.{form_of, form_at, numbers_of, Says, Beside, TwoBytes, SameTables, Compiled}
use Rattle.compiled.proofs.Laws.{held_count}

-- ---- the numbers w are put into a list from place a on

module _ (a : ℕ) (w l : List ℕ) (fits : a + length w ≤ length l) where
  -- w is there
  put_inside : (r : List ℕ) (i j : ℕ) → i ≡ a + j → j < length w → get_or (take a l ++ (w ++ r)) i 0 ≡ get_or w j 0
  put_inside r i j e h =
      let n = length-take-le a l (omega arith) in
      let p : i ≡ length (take a l) + j = omega arith in
      rw p (get_or-append-add (take a l) (w ++ r) j 0) ∙ get_or-append w r 0 j h

  -- elsewhere nothing changed
  put_outside : (b i : ℕ) → b ≡ a + length w → (i < a) ⊎ (b ≤ i) → get_or (take a l ++ (w ++ drop b l)) i 0 ≡ get_or l i 0
  put_outside b i e (inl h) =
      let n = length-take-le a l (omega arith) in
      get_or-append (take a l) (w ++ drop b l) 0 i (omega arith) ∙ get_or-take a l i 0 h
  put_outside b i e (inr h) =
      let n = length-take-le a l (omega arith) in
      let p : i ≡ length (take a l) + (length w + (i - b)) = omega arith in
      let q : b + (i - b) ≡ i = omega arith in
      ap (λ (x : ℕ). get_or (take a l ++ (w ++ drop b l)) x 0) p
      ∙ get_or-append-add (take a l) (w ++ drop b l) (length w + (i - b)) 0
      ∙ get_or-append-add w (drop b l) (i - b) 0
      ∙ get_or-drop b l (i - b) 0
      ∙ ap (λ (x : ℕ). get_or l x 0) q

-- ---- a form is put at place k of table t

module _ (tab after : List ℕ) (t k : ℕ) (f : Form) (room : length tab ≡ 5128) (ht : t < 8) (hk : k < 64)
    (e : after ≡ take (t * 385 + 1 + k * 6) tab ++ (numbers_of f ++ drop (t * 385 + 7 + k * 6) tab)) where
  -- it is the form there
  form_put : form_at after t k ≡ f
  unfolding form_at numbers_of
  form_put =
      let rest = drop (t * 385 + 7 + k * 6) tab in
      let at = put_inside (t * 385 + 1 + k * 6) (numbers_of f) tab (omega arith) rest in
      rw (
        e,
        at (t * 385 + 1 + k * 6) 0 (omega arith) (omega arith),
        at (t * 385 + 2 + k * 6) 1 (omega arith) (omega arith),
        at (t * 385 + 3 + k * 6) 2 (omega arith) (omega arith),
        at (t * 385 + 4 + k * 6) 3 (omega arith) (omega arith),
        at (t * 385 + 5 + k * 6) 4 (omega arith) (omega arith),
        at (t * 385 + 6 + k * 6) 5 (omega arith) (omega arith),
      )

  -- every other number is as it was
  form_beside : (i : ℕ) → (i < t * 385 + 1 + k * 6) ⊎ (t * 385 + 7 + k * 6 ≤ i) → get_or after i 0 ≡ get_or tab i 0
  unfolding numbers_of
  form_beside i h =
      ap (λ (l : List ℕ). get_or l i 0) e
      ∙ put_outside (t * 385 + 1 + k * 6) (numbers_of f) tab (omega arith) (t * 385 + 7 + k * 6) i (omega arith) h

-- a form whose six numbers are the same is the same
form_same : (x y : List ℕ) (t k : ℕ)
    → ((i : ℕ) → t * 385 + 1 + k * 6 ≤ i → i < t * 385 + 7 + k * 6 → get_or y i 0 ≡ get_or x i 0)
    → form_at y t k ≡ form_at x t k
unfolding form_at
form_same x y t k same =
    rw (
      same (t * 385 + 1 + k * 6) (omega arith) (omega arith),
      same (t * 385 + 2 + k * 6) (omega arith) (omega arith),
      same (t * 385 + 3 + k * 6) (omega arith) (omega arith),
      same (t * 385 + 4 + k * 6) (omega arith) (omega arith),
      same (t * 385 + 5 + k * 6) (omega arith) (omega arith),
      same (t * 385 + 6 + k * 6) (omega arith) (omega arith),
    )

-- ---- a table is put, form by form

-- table t has its count and the first k of the structures cs, and nothing beside it changed
pub record Upto (cs : List Structure) (before tab : List ℕ) (t k : ℕ) : Type 0 where
  pub room : length tab ≡ 5128
  pub count : get_or tab (t * 385) 0 ≡ length cs
  pub form : (j : ℕ) → j < k → form_at tab t j ≡ form_of (get_or cs j no_structure)
  pub beside : Beside before tab t

-- the count is put
pub upto_start : (cs : List Structure) (l : List ℕ) (t n : ℕ) → length l ≡ 5128 → t < 8 → n ≡ length cs
    → Upto cs (set l (t * 385) n) (set l (t * 385) n) t 0
upto_start cs l t n room h e = record {
  room = length-set l (t * 385) n ∙ room;
  count = get_or-set_same l (t * 385) n 0 (omega arith) ∙ e;
  form = λ j g. absurd (omega arith);
  beside = λ i w. refl;
}

-- the form of the next structure is put
pub upto_turn : {cs : List Structure} {before tab : List ℕ} {t k : ℕ} (f : Form) (after : List ℕ) → Upto cs before tab t k
    → t < 8 → k < 64 → f ≡ form_of (get_or cs k no_structure) → length after ≡ length tab
    → after ≡ take (t * 385 + 1 + k * 6) tab ++ (numbers_of f ++ drop (t * 385 + 7 + k * 6) tab)
    → Upto cs before after t (k + 1)
upto_turn {cs} {before} {tab} {t} {k} f after u ht hk g n e =
    let other = form_beside tab after t k f u.room ht hk e in
    record {
      room = n ∙ u.room;
      count = other (t * 385) (inl (omega arith)) ∙ u.count;
      form =
          below_more (λ (j : ℕ). form_at after t j ≡ form_of (get_or cs j no_structure)) k
          (λ j h. form_same tab after t j (λ i p q. other i (inl (omega arith))) ∙ u.form j h)
          (form_put tab after t k f u.room ht hk e ∙ g);
      beside = λ i w. other i (⊎_elim (λ v. inl (omega arith)) (λ v. inr (omega arith)) w) ∙ u.beside i w;
    }

-- all structures are put
pub upto_end : {cs : List Structure} {tab : List ℕ} (l : List ℕ) (t n k : ℕ) → Upto cs (set l (t * 385) n) tab t k → k ≡ length cs
    → Says cs tab t × Beside l tab t
upto_end l t n k u e = (
  record { count = u.count; form = λ j h. u.form j (omega arith) },
  λ i w. u.beside i w ∙ get_or-set_other l (t * 385) i n 0 (λ p. ⊎_elim (λ v. omega arith) (λ v. omega arith) w),
)

-- ---- tables beside each other

-- a table whose numbers are the same says the same
says_same : (cs : List Structure) (x y : List ℕ) (t : ℕ) → length cs ≤ 64 → Says cs x t
    → ((i : ℕ) → t * 385 ≤ i → i < t * 385 + 385 → get_or y i 0 ≡ get_or x i 0)
    → Says cs y t
says_same cs x y t most s same = record {
  count = same (t * 385) (omega arith) (omega arith) ∙ s.count;
  form = λ k h. form_same x y t k (λ i p q. same i (omega arith) (omega arith)) ∙ s.form k h;
}

-- the next of the tables that are left, and those behind it
pub tables_next : (s : List ℕ) (from n t : ℕ) (all : List (List Structure)) → t < n → tables_from s from (n - t) ≡ drop t all
    → (get_or all t [] ≡ table_at s from) × (tables_from s (after_table s from) (n - (t + 1)) ≡ drop (t + 1) all)
tables_next s from n t all h e =
    let cons = sym e ∙ tables_cons s from (n - t) (omega arith) in
    let z : t + 0 ≡ t = omega arith in
    let m : n - t - 1 ≡ n - (t + 1) = omega arith in (
      ap (λ (i : ℕ). get_or all i []) (sym z) ∙ sym (get_or-drop t all 0 []) ∙ ap (λ (l : List (List Structure)). get_or l 0 []) cons,
      ap (tables_from s (after_table s from)) (sym m) ∙ sym (ap (drop 1) cons) ∙ drop-drop 1 t all,
    )

-- a table is put behind those that are there
pub tables_turn : (n : ℕ) (tables : List (List Structure)) (tab after : List ℕ) (t : ℕ) → every (table_right n) tables ≡ true
    → t ≤ length tables → ((u : ℕ) → u < t → Says (get_or tables u []) tab u)
    → Says (get_or tables t []) after t × Beside tab after t
    → (u : ℕ) → u < t + 1 → Says (get_or tables u []) after u
tables_turn n tables tab after t right l before put =
    let most : (u : ℕ) → u < t → length (get_or tables u []) ≤ 64 = λ u h. (right_at n tables right u (omega arith)).most in
    below_more (λ (u : ℕ). Says (get_or tables u []) after u) t
    (λ u h. says_same (get_or tables u []) tab after u (most u h) (before u h) (λ i p q. put.1 i (inl (omega arith))))
    put.0

-- ---- base values of two bytes

-- those of the default table
default_small : (k : ℕ) → (get_or default_table k no_structure).base < 65536
unfolding every default_table two_values valued
default_small k = go (dec_lt k (length default_table))
  where
    go : Dec (k < length default_table) → (get_or default_table k no_structure).base < 65536
    go (yes l) =
        ltb-true (get_or default_table k no_structure).base 65536
        (every_at (λ (c : Structure). ltb c.base 65536) no_structure default_table refl k l)
    go (no l) = rw (get_or-eq_default default_table no_structure {n = k} (omega arith)) (omega arith)

-- those of the default table alone
pub default_two : TwoBytes (default_table ∷ [])
default_two zero k = default_small k
default_two (suc t) k = omega arith

module _ (s : List ℕ) (bytes : (i : ℕ) → get_or s i 0 < 256) where
  -- those of structures in bytes
  structures_small : (o n k : ℕ) → (get_or (structures_at s o n) k no_structure).base < 65536
  unfolding structures_at structure_at number_at
  structures_small o zero k = omega arith
  structures_small o (suc n) zero = omega (arith, bytes (o + 3), bytes (o + 3 + 1))
  structures_small o (suc n) (suc k) = structures_small (o + 9) n k

  -- those of tables in bytes
  pub tables_two : (o n : ℕ) → TwoBytes (tables_from s o n)
  unfolding tables_from table_at
  tables_two o zero t k = omega arith
  tables_two o (suc n) zero k = structures_small (o + 2) (number_at 2 s o) k
  tables_two o (suc n) (suc t) k = tables_two (after_table s o) n t k

-- ---- all tables are put

-- n tables are there, and behind them there is none
pub ready : (tables : List (List Structure)) (n : ℕ) (tab after : List ℕ) → length tables ≡ n → 1 ≤ n → n ≤ 8
    → every (table_right n) tables ≡ true → TwoBytes tables → length after ≡ 5128
    → ((t : ℕ) → t < n → Says (get_or tables t []) tab t)
    → ((t : ℕ) → n ≤ t → t < 8 → Says [] after t) × ((i : ℕ) → i < n * 385 → get_or after i 0 ≡ get_or tab i 0)
    → Compiled tables after
ready tables n tab after e some most right two room says none = record {
  room = room;
  some = omega arith;
  most = omega arith;
  right = rw e right;
  two_bytes = two;
  says = λ t h. go t h (dec_lt t n);
}
  where
    go : (t : ℕ) → t < 8 → Dec (t < n) → Says (get_or tables t []) after t
    go t h (yes l) =
        says_same (get_or tables t []) tab after t (right_at n tables right t (omega arith)).most (says t l)
        (λ i p q. none.1 i (omega arith))
    go t h (no l) = rw (get_or-eq_default tables [] {n = t} (omega arith)) (none.0 t (omega arith) h)

-- tables that are ready stay so, whatever is put behind their numbers
pub ready_same : (tables : List (List Structure)) (tab after : List ℕ) → length after ≡ 5128 → SameTables tab after
    → Compiled tables tab → Compiled tables after
ready_same tables tab after room same held = record {
  room = room;
  some = held.some;
  most = held.most;
  right = held.right;
  two_bytes = held.two_bytes;
  says = λ t h. says_same (get_or tables t []) tab after t (few t h) (held.says t h) (λ i p q. same i (omega arith));
}
  where
    few : (t : ℕ) → t < 8 → length (get_or tables t []) ≤ 64
    few t h = omega (arith, held_count held t h, (held.says t h).count)
