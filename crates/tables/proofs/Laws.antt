-- Laws that the proofs of this crate and of those above it cite. Assumes nothing.
use Prim.Native.Nat.{ℕ, zero, suc, ◌+◌, ◌-◌, min, ◌*◌, ◌/◌, ◌%◌, ◌^◌, ◌≤◌, ◌<◌}
use mathlib.Core.Path.{◌≡◌, refl, sym, ap, ◌∙◌}
use mathlib.Core.Bool.{Bool, true, false, not, ◌&&◌, cond, and-false, and-eq-true_iff}
use mathlib.Core.List.{List, [], ◌∷◌}
use mathlib.Core.Logic.{◌⊎◌, inl, inr, ⊎_elim}
use native.Mathlib.Nat.{sub-zero}
use native.Mathlib.Decide.{dec_le}
use native.Mathlib.Omega.{arith}
use lib.Dec.{leb, ltb, eqb}
use lib.ListN.{length, get_or}
use borrow.Author.Tests.{leb-true, ltb-true, eqb-true, eqb-false, eq-eqb, ne_eqb}
use Rattle.wire.specs.Numbers.{number_at}
use Rattle.wire.proofs.Laws.{unlike}
use Rattle.wire.proofs.Every.{every_at}
use Rattle.wire.specs.RuleWords.{each, all_in, every}
use Rattle.bits.specs.Bits.{low_first, begins}
use Rattle.tables.specs.declared.Structure.{Structure}
use Rattle.tables.specs.Structures.{structure_at, structures_at, remainder_of, mode_right, no_structure}
use Rattle.tables.specs.Structures.{structure_right, apart, prefix_free}
use Rattle.tables.specs.Section2.{is_default, table_count, table_at, after_table, tables_from, table_right, section2_right}

-- the part that a test picks holds where the rule holds
either : (t a b : Bool) → cond t a b ≡ true → ((t ≡ true) × (a ≡ true)) ⊎ ((t ≡ false) × (b ≡ true))
either true a b h = inl (refl, h)
either false a b h = inr (refl, h)

-- ---- structures and tables one after another

-- n structures are n
pub length_structures_at : (s : List ℕ) (o n : ℕ) → length (structures_at s o n) ≡ n
unfolding structures_at
length_structures_at s o zero = refl
length_structures_at s o (suc n) = ap suc (length_structures_at s (o + 9) n)

-- each is nine bytes behind the one before
pub get_d_structures_at : (s : List ℕ) (o n k : ℕ) → k < n → get_or (structures_at s o n) k no_structure ≡ structure_at s (o + 9 * k)
unfolding structures_at
get_d_structures_at s o zero k h = absurd (omega arith)
get_d_structures_at s o (suc n) zero h = let e : o + 9 * 0 ≡ o = omega arith in rw e
get_d_structures_at s o (suc n) (suc k) h =
    let e : o + 9 + 9 * k ≡ o + 9 * suc k = omega arith in
    rw (← e) (get_d_structures_at s (o + 9) n k (omega arith))

-- a rule of n structures is one of each of n places
pub structures_all : (rule : Structure → Bool) (s : List ℕ) (o n : ℕ) → all_in 0 n (λ k. rule (structure_at s (o + 9 * k))) ≡ every rule (structures_at s o n)
unfolding all_in each every structures_at
structures_all rule s o n = (let e : o + 9 * 0 ≡ o = omega arith in rw (sub-zero n) (go n 0 ∙ ap (λ (at : ℕ). every rule (structures_at s at n)) e))
  where
    go : (m k : ℕ) → each m k (λ i. rule (structure_at s (o + 9 * i))) ≡ every rule (structures_at s (o + 9 * k) m)
    go zero k = refl
    go (suc m) k =
        let e : o + 9 * (k + 1) ≡ o + 9 * k + 9 = omega arith in
        ap (λ (b : Bool). rule (structure_at s (o + 9 * k)) && b) (go m (k + 1) ∙ ap (λ (at : ℕ). every rule (structures_at s at m)) e)

-- n structures of which each is apart from those behind it
pub free_all : (s : List ℕ) (o n : ℕ)
    → all_in 0 n (λ k. every (apart (structure_at s (o + 9 * k))) (structures_at s (o + 9 * k + 9) (n - 1 - k))) ≡ prefix_free (structures_at s o n)
unfolding all_in each prefix_free structures_at
free_all s o n = (let e : o + 9 * 0 ≡ o = omega arith in rw (sub-zero n) (go n 0 (omega arith) ∙ ap (λ (at : ℕ). prefix_free (structures_at s at n)) e))
  where
    rest : ℕ → ℕ → Bool
    rest k m = every (apart (structure_at s (o + 9 * k))) (structures_at s (o + 9 * k + 9) m)

    go : (m k : ℕ) → k + m ≡ n → each m k (λ i. rest i (n - 1 - i)) ≡ prefix_free (structures_at s (o + 9 * k) m)
    go zero k h = refl
    go (suc m) k h =
        let e : o + 9 * (k + 1) ≡ o + 9 * k + 9 = omega arith in
        let left : n - 1 - k ≡ m = omega arith in
        rw (left, go m (k + 1) (omega arith), e)

-- the first of the tables that are left
pub tables_cons : (s : List ℕ) (o n : ℕ) → 0 < n → tables_from s o n ≡ table_at s o ∷ tables_from s (after_table s o) (n - 1)
unfolding tables_from
tables_cons s o n h = let e : n ≡ suc (n - 1) = omega arith in ap (tables_from s o) e

-- no table is left
pub tables_none : (s : List ℕ) (o n : ℕ) → n ≤ 0 → tables_from s o n ≡ []
unfolding tables_from
tables_none s o n h = let e : n ≡ 0 = omega arith in ap (tables_from s o) e

-- n tables are n
pub length_tables : (s : List ℕ) (o n : ℕ) → length (tables_from s o n) ≡ n
unfolding tables_from
length_tables s o zero = refl
length_tables s o (suc n) = ap suc (length_tables s (after_table s o) n)

-- ---- prefixes

-- neither number's lowest bits, p of x and q of y, begin the other's
abbrev pub bits_apart : ℕ → ℕ → ℕ → ℕ → Bool
bits_apart p q x y = not (begins (low_first p x) (low_first q y)) && not (begins (low_first q y) (low_first p x))

-- after k bits that are the same
module _ (p q k x y : ℕ) where
  -- the next bits differ
  pub bits_differ : k < p → k < q → (x % 2 ≡ y % 2 → ⊥) → bits_apart (p - k) (q - k) x y ≡ true
  unfolding low_first begins
  bits_differ hp hq n =
      let ep : p - k ≡ suc (p - (k + 1)) = omega arith in
      let eq : q - k ≡ suc (q - (k + 1)) = omega arith in
      rw (ep, eq, ne_eqb (x % 2) (y % 2) n, ne_eqb (y % 2) (x % 2) (λ e. n (sym e)))

  -- the next bits are the same, so the others decide
  pub bits_same : k < p → k < q → x % 2 ≡ y % 2 → bits_apart (p - k) (q - k) x y ≡ bits_apart (p - (k + 1)) (q - (k + 1)) (x / 2) (y / 2)
  unfolding low_first begins
  bits_same hp hq e =
      let ep : p - k ≡ suc (p - (k + 1)) = omega arith in
      let eq : q - k ≡ suc (q - (k + 1)) = omega arith in
      rw (ep, eq, eq-eqb (x % 2) (y % 2) e, eq-eqb (y % 2) (x % 2) (sym e))

  -- no bit is left of one of the two
  pub bits_none : min p q ≤ k → bits_apart (p - k) (q - k) x y ≡ false
  unfolding low_first begins
  bits_none h = go (dec_le p k)
    where
      go : Dec (p ≤ k) → bits_apart (p - k) (q - k) x y ≡ false
      go (yes l) = let e : p - k ≡ 0 = omega arith in rw e
      go (no l) = let e : q - k ≡ 0 = omega arith in rw e (and-false (not (begins (low_first (p - k) x) [])))

-- no prefix begins another: any two places
pub free_at : (cs : List Structure) → prefix_free cs ≡ true → (j k : ℕ) → j < k → k < length cs
    → apart (get_or cs j no_structure) (get_or cs k no_structure) ≡ true
unfolding prefix_free
free_at [] h j k g l = absurd (omega arith)
free_at (c ∷ cs) h j zero g l = absurd (omega arith)
free_at (c ∷ cs) h zero (suc k) g l = every_at (apart c) no_structure cs ((and-eq-true_iff (every (apart c) cs) _).0 h).0 k (omega arith)
free_at (c ∷ cs) h (suc j) (suc k) g l = free_at cs ((and-eq-true_iff (every (apart c) cs) _).0 h).1 j k (omega arith) (omega arith)

-- ---- what the rules say

-- what a structure's rule says, in numbers
pub record Fine (tables : ℕ) (c : Structure) : Type 0 where
  pub some : 1 ≤ c.prefix
  pub most : c.prefix ≤ 32
  pub within : c.prefix ≤ c.whole
  pub rest : c.whole ≤ c.prefix + 16
  pub below : c.code < 2 ^ c.prefix
  pub kind : c.mode ≤ 1
  pub switch : c.mode ≡ 0 → (c.whole ≡ c.prefix) × (1 ≤ c.base) × (c.base ≤ tables)

switch_fine : (tables : ℕ) (c : Structure) → eqb c.whole c.prefix && (leb 1 c.base && leb c.base tables) ≡ true
    → (c.whole ≡ c.prefix) × (1 ≤ c.base) × (c.base ≤ tables)
switch_fine tables c h =
    let p = (and-eq-true_iff (eqb c.whole c.prefix) _).0 h in
    let q = (and-eq-true_iff (leb 1 c.base) _).0 p.1 in
    omega (arith, eqb-true, leb-true)

mode_fine : (tables : ℕ) (c : Structure) → mode_right tables c ≡ true
    → (c.mode ≤ 1) × (c.mode ≡ 0 → (c.whole ≡ c.prefix) × (1 ≤ c.base) × (c.base ≤ tables))
unfolding mode_right
mode_fine tables c h =
    ⊎_elim
    (λ w. (omega (arith, eqb-true), λ z. switch_fine tables c w.1))
    (λ w. (omega (arith, eqb-true), λ z. absurd (eqb-false c.mode 0 w.0 z)))
    (either (eqb c.mode 0) _ _ h)

-- a structure that keeps its rule
pub fine : (tables : ℕ) (c : Structure) → structure_right tables c ≡ true → Fine tables c
unfolding structure_right
fine tables c h =
    let h1 = (and-eq-true_iff (leb 1 c.prefix) _).0 h in
    let h2 = (and-eq-true_iff (leb c.prefix 32) _).0 h1.1 in
    let h3 = (and-eq-true_iff (leb c.prefix c.whole) _).0 h2.1 in
    let h4 = (and-eq-true_iff (leb (remainder_of c) 16) _).0 h3.1 in
    let h5 = (and-eq-true_iff (ltb c.code (2 ^ c.prefix)) _).0 h4.1 in
    let m = mode_fine tables c h5.1 in
    record {
      some = leb-true 1 c.prefix h1.0;
      most = leb-true c.prefix 32 h2.0;
      within = leb-true c.prefix c.whole h3.0;
      rest = omega (arith, leb-true);
      below = ltb-true c.code (2 ^ c.prefix) h5.0;
      kind = m.0;
      switch = m.1;
    }

-- what a table's rule says
pub record RightTable (tables : ℕ) (cs : List Structure) : Type 0 where
  pub some : 1 ≤ length cs
  pub most : length cs ≤ 64
  pub right : every (structure_right tables) cs ≡ true
  pub free : prefix_free cs ≡ true

-- a table that keeps its rule
pub table_right_lem : (tables : ℕ) (cs : List Structure) → table_right tables cs ≡ true → RightTable tables cs
unfolding table_right
table_right_lem tables cs h =
    let p = (and-eq-true_iff (leb 1 (length cs)) _).0 h in
    let q = (and-eq-true_iff (leb (length cs) 64) _).0 p.1 in
    let r = (and-eq-true_iff (every (structure_right tables) cs) _).0 q.1 in
    record { some = leb-true 1 (length cs) p.0; most = leb-true (length cs) 64 q.0; right = r.0; free = r.1 }

-- each of right tables
pub right_at : (n : ℕ) (tables : List (List Structure)) → every (table_right n) tables ≡ true
    → (t : ℕ) → t < length tables → RightTable n (get_or tables t [])
right_at n tables right t h = table_right_lem n (get_or tables t []) (every_at (table_right n) [] tables right t h)

-- a right table takes at most 578 bytes
pub after_right : (tables : ℕ) (s : List ℕ) (o : ℕ) → table_right tables (table_at s o) ≡ true → after_table s o ≤ o + 578
unfolding after_table table_at
after_right tables s o h =
    let t = table_right_lem tables (table_at s o) h in
    omega (arith, length_structures_at s (o + 2) (number_at 2 s o))

-- what the rule of data with tables of their own says
pub record RightTables (s : List ℕ) (at : ℕ) : Type 0 where
  pub own : is_default s at ≡ false
  pub some : 1 ≤ table_count s at
  pub most : table_count s at ≤ 8
  pub right : every (table_right (table_count s at)) (tables_from s (at + 2) (table_count s at)) ≡ true

-- data that keep their rule have the default table, or tables of their own by that rule
pub section2_right_lem : (spare : ℕ) (s : List ℕ) (at : ℕ) → section2_right spare s at ≡ true → (is_default s at ≡ true) ⊎ RightTables s at
unfolding section2_right
section2_right_lem spare s at h =
    ⊎_elim
    (λ w. inl w.0)
    (λ w.
    let n = table_count s at in
    let p = (and-eq-true_iff (leb 1 n) _).0 w.1 in
    let q = (and-eq-true_iff (leb n 8) _).0 p.1 in
    let r = (and-eq-true_iff (every (table_right n) (tables_from s (at + 2) n)) _).0 q.1 in
    inr (record { own = w.0; some = leb-true 1 n p.0; most = leb-true n 8 q.0; right = r.0 }))
    (either (is_default s at) _ _ h)

-- those that do not have the default table have tables of their own
pub own_tables : (spare : ℕ) (s : List ℕ) (at : ℕ) → section2_right spare s at ≡ true → is_default s at ≡ false → RightTables s at
own_tables spare s at h e = ⊎_elim (λ d. unlike cc) (λ r. r) (section2_right_lem spare s at h)
