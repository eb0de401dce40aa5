-- Laws of a form's numbers, and of reading tables that are ready, for the proofs of this crate and of those above it. Assumes nothing.
use Prim.Native.Nat.{ℕ, zero, suc, ◌*◌, ◌^◌, ◌≤◌, ◌<◌}
use mathlib.Core.Path.{◌≡◌, refl, ap}
use mathlib.Core.Bool.{Bool, true, false, cond}
use mathlib.Core.List.{List, []}
use mathlib.Core.Logic.{◌⊎◌, inl, inr, ⊎_elim}
use native.Mathlib.Omega.{arith}
use native.Mathlib.Decide.{dec_lt}
use borrow.Author.Tests.{le-leb, lt-ltb, eq-eqb, eqb-true, eqb-false}
use lib.Dec.{eqb}
use lib.ListN.{length, get_or, take, get_or-eq_default}
use lib.Seq.{take_all}
use lib.Pow.{pow_mono}
use Rattle.bits.specs.Bits.{low_first}
use Rattle.bits.specs.InnerWindow.{turned}
use Rattle.bits.proofs.Laws.{length_low_first, small_low_first, number_small}
use Rattle.tables.specs.declared.Structure.{Structure}
use Rattle.tables.specs.Structures.{remainder_of, mode_right, structure_right, apart, no_structure}
use Rattle.wire.proofs.Every.{every_at}
use Rattle.tables.proofs.Laws.{Fine, fine, RightTable, free_at, right_at}
use Rattle.compiled.specs.declared.Form.{Form}
use Rattle.compiled.specs.InnerForm.{lowest, beyond, form_of, form_at, Compiled, CompiledOrNone}

-- ---- what a form holds

-- what a test picks
picked : {A : Type 0} (P : A → Type 0) (b : Bool) {x y : A} → (b ≡ true → P x) → (b ≡ false → P y) → P (cond b x y)
picked P true p q = p refl
picked P false p q = q refl

-- the least value served
lowest_small : (base w : ℕ) → lowest base w < 262144
lowest_small base zero = omega arith
lowest_small base (suc w) = omega arith

-- the first value past those served
beyond_small : (base w : ℕ) → w ≤ 16 → beyond base w < 262144
beyond_small base zero h = omega arith
beyond_small base (suc w) h = omega (arith, pow_mono {i = w} {j = 15} (omega arith))

-- a turned code of p bits
turned_small : (p c : ℕ) → turned p c < 2 ^ p
unfolding turned
turned_small p c = rw (length_low_first p c) at (number_small (low_first p c) (small_low_first p c))

-- the numbers of a right structure's form
pub record FineForm (f : Form) : Type 0 where
  pub some : 1 ≤ f.prefix
  pub most : f.prefix ≤ 32
  pub rest : f.remainder ≤ 16
  pub to : f.to ≤ 8
  pub lo : f.lo < 262144
  pub hi : f.hi < 262144
  pub word : f.word < 2 ^ f.prefix

-- the form of a right structure
pub form_fine : (tables : ℕ) (c : Structure) → tables ≤ 8 → structure_right tables c ≡ true → FineForm (form_of c)
unfolding form_of
form_fine tables c h right =
    let f = fine tables c right in
    let switch = eqb c.mode 0 in
    let rest : remainder_of c ≤ 16 = omega (arith, f.rest) in
    record {
      some = f.some;
      most = f.most;
      rest = rest;
      to = picked (λ (x : ℕ). x ≤ 8) switch (λ e. omega (arith, (f.switch (eqb-true c.mode 0 e)).2)) (λ e. omega arith);
      lo = picked (λ (x : ℕ). x < 262144) switch (λ e. omega arith) (λ e. lowest_small c.base (remainder_of c));
      hi = picked (λ (x : ℕ). x < 262144) switch (λ e. omega arith) (λ e. beyond_small c.base (remainder_of c) rest);
      word = turned_small c.prefix c.code;
    }

-- such numbers fit their room
pub form_room : {f : Form} → FineForm f
    → ((f.prefix < 4294967296) × (f.remainder < 4294967296) × (f.to < 4294967296))
    × ((f.lo < 4294967296) × (f.hi < 4294967296) × (f.word < 4294967296))
form_room {f} h = omega (arith, pow_mono {i = f.prefix} {j = 32} h.most)

-- a mode that is right among m tables is right among more
mode_more : (m n : ℕ) (c : Structure) → m ≤ n → Fine m c → mode_right n c ≡ true
unfolding mode_right
mode_more m n c h f =
    picked (λ (x : Bool). x ≡ true) (eqb c.mode 0)
    (λ e.
    let s = f.switch (eqb-true c.mode 0 e) in
    rw (eq-eqb c.whole c.prefix s.0, le-leb 1 c.base s.1, le-leb c.base n (omega (arith, s.2))))
    (λ e. let z = eqb-false c.mode 0 e in eq-eqb c.mode 1 (omega (arith, f.kind)))

-- so is a structure
right_more : (m n : ℕ) (c : Structure) → m ≤ n → structure_right m c ≡ true → structure_right n c ≡ true
unfolding structure_right
right_more m n c h right =
    let f = fine m c right in
    rw (
      le-leb 1 c.prefix f.some,
      le-leb c.prefix 32 f.most,
      le-leb c.prefix c.whole f.within,
      le-leb (remainder_of c) 16 (omega (arith, f.rest)),
      lt-ltb c.code (2 ^ c.prefix) f.below,
    )
    (mode_more m n c h f)

-- ---- what is read of tables that are ready

-- numbers that there are say the tables that they hold
pub held_ready : (tables : List (List Structure)) (tab : List ℕ) → CompiledOrNone tables tab → (length tab ≡ 0 → ⊥) → Compiled tables tab
held_ready tables tab (inl ready) h = ready
held_ready tables tab (inr empty) h = absurd (h (ap length empty.1))

-- and tables that are said are held, where the numbers are lent whole
pub ready_held : {given tables : List (List Structure)} {tab : List ℕ} {n : ℕ} → given ≡ tables → Compiled tables tab → length tab ≡ n
    → CompiledOrNone given (take n tab)
ready_held {tab = tab} {n = n} e ready h = rw (e, take_all n tab (omega arith)) (inl ready)

module _ {tables : List (List Structure)} {tab : List ℕ} (held : Compiled tables tab) (t : ℕ) (h : t < 8) where
  -- table t has as many structures as its count says
  counted : get_or tab (t * 385) 0 ≡ length (get_or tables t [])
  counted = (held.says t h).count

  -- it keeps its rule, or it is not there
  held_table : RightTable (length tables) (get_or tables t []) ⊎ (get_or tables t [] ≡ [])
  held_table = go (dec_lt t (length tables))
    where
      go : Dec (t < length tables) → RightTable (length tables) (get_or tables t []) ⊎ (get_or tables t [] ≡ [])
      go (yes l) = inl (right_at (length tables) tables held.right t l)
      go (no l) = inr (get_or-eq_default tables [] (omega arith))

  -- it has at most 64 structures
  pub held_count : get_or tab (t * 385) 0 ≤ 64
  held_count = ⊎_elim (λ r. omega (arith, counted)) (λ e. omega (arith, counted, ap length e)) held_table

  -- no two of them match the same bits
  pub held_apart : (j k : ℕ) → j < k → k < length (get_or tables t [])
      → apart (get_or (get_or tables t []) j no_structure) (get_or (get_or tables t []) k no_structure) ≡ true
  held_apart j k l g =
      ⊎_elim (λ r. free_at (get_or tables t []) r.free j k l g) (λ e. absurd (omega (arith, ap length e))) held_table

  -- the form at a place is that of the structure there
  pub held_form : (k : ℕ) → k < get_or tab (t * 385) 0 → form_at tab t k ≡ form_of (get_or (get_or tables t []) k no_structure)
  held_form k g = (held.says t h).form k (omega (arith, counted))

  -- which is right
  pub held_right : (k : ℕ) → k < get_or tab (t * 385) 0 → structure_right 8 (get_or (get_or tables t []) k no_structure) ≡ true
  held_right k g =
      right_more (length tables) 8 (get_or (get_or tables t []) k no_structure) held.most
      (⊎_elim
      (λ r. every_at (structure_right (length tables)) no_structure (get_or tables t []) r.right k (omega (arith, counted)))
      (λ e. absurd (omega (arith, counted, ap length e)))
      held_table)

  -- so that the form's numbers are small
  pub held_fine : (k : ℕ) → k < get_or tab (t * 385) 0 → FineForm (form_at tab t k)
  held_fine k g = rw (held_form k g) (form_fine 8 (get_or (get_or tables t []) k no_structure) (omega arith) (held_right k g))
