-- The reading rule, the number of codes hidden: what the proofs of this crate and of those above it cite. Assumes nothing.
use Prim.Native.Nat.{ℕ, zero, suc, ◌+◌, ◌-◌, ◌≤◌, ◌<◌}
use mathlib.Core.Path.{◌≡◌, refl, sym, ap, ◌∙◌}
use mathlib.Core.Bool.{Bool, true, false, cond}
use mathlib.Core.List.{List, [], ◌∷◌, ◌++◌}
use mathlib.Core.Option.{Option, none, some}
use native.Mathlib.Nat.{add-zero}
use native.Mathlib.Decide.{dec_lt}
use native.Mathlib.Omega.{arith}
use borrow.Author.Tests.{le-leb, lt-leb, eq-eqb, ne_eqb, eqb-true}
use lib.Dec.{leb, eqb}
use lib.IntN.{ℤ}
use lib.ListN.{length, get_or, take, drop, length-append, length-drop, get_or-eq_default}
use Rattle.wire.proofs.Laws.{unlike}
use Rattle.wire.specs.RuleWords.{every}
use Rattle.bits.specs.Bits.{low_first, number_of, signed, begins}
use Rattle.bits.proofs.Laws.{length_low_first, begins_split}
use Rattle.tables.specs.declared.Structure.{Structure}
use Rattle.tables.specs.Structures.{prefix_of, remainder_of, structure_right, no_structure}
use Rattle.tables.specs.Section2.{table_of, table_right}
use Rattle.wire.proofs.Every.{every_at}
use Rattle.tables.proofs.Laws.{fine, RightTable, right_at}
use Rattle.compiled.specs.InnerForm.{form_of}
use Rattle.reading.specs.Reading.{gave, stuck, matching, value_of, after_match, read_within, read_coded, read_next}
use Rattle.reading.specs.Compared.{compared_in, compared_after, compared_within, compared_coded, compared_next}

-- ---- the structure that bits begin with

-- p bits that begin a list are its first part, and no more than it has
begins_parts : (p c : ℕ) (l : List ℕ) → begins (low_first p c) l ≡ true → (l ≡ low_first p c ++ drop p l) × (p ≤ length l)
begins_parts p c l h =
    let split = rw (length_low_first p c) at (begins_split (low_first p c) l h) in
    (split, omega (arith, ap length split, length_low_first p c, length-append (low_first p c) (drop p l)))

-- where a structure is in its table, from 0, and that the bits begin with its prefix; just the structures up to it are compared
pub record Matched (cs : List Structure) (bs : List ℕ) (c : Structure) : Type 0 where
  pub place : ℕ
  pub there : place < length cs
  pub stands : get_or cs place no_structure ≡ c
  pub split : bs ≡ prefix_of c ++ drop c.prefix bs
  pub long : c.prefix ≤ length bs
  pub counted : compared_in cs bs ≡ suc place

-- so does a structure that is matched
pub matched : (cs : List Structure) (bs : List ℕ) (c : Structure) → matching cs bs ≡ some c → Matched cs bs c
unfolding matching compared_in
matched [] bs c h = unlike cc
matched (d ∷ cs) bs c h = go (begins (prefix_of d) bs) refl h (matched cs bs c)
  where
    go : (b : Bool) → begins (prefix_of d) bs ≡ b → cond b (some d) (matching cs bs) ≡ some c
        → (matching cs bs ≡ some c → Matched cs bs c) → Matched (d ∷ cs) bs c
    go true e g behind =
        let same : d ≡ c = cc in
        let split = begins_parts d.prefix d.code bs e in
        record {
          place = 0;
          there = omega arith;
          stands = same;
          split = rw (← same) split.0;
          long = rw (← same) split.1;
          counted = rw e;
        }
    go false e g behind =
        let m = behind g in
        record {
          place = suc m.place;
          there = omega arith;
          stands = m.stands;
          split = m.split;
          long = m.long;
          counted = rw e (ap suc m.counted);
        }

-- ---- reading, the number of codes hidden

-- what is found code by code, within so many codes: nothing of none; and after a match the bits behind its code alone decide
record CodeByCode (tables : List (List Structure)) {A : Type 0} (nothing : A) (after : (ℕ → List ℕ → A) → Option Structure → ℕ → List ℕ → A)
    (within : ℕ → ℕ → List ℕ → A) : Type 0 where
  unmatched : (x : ℕ → List ℕ → A) (table : ℕ) (bs : List ℕ) → after x none table bs ≡ nothing
  behind : (x y : ℕ → List ℕ → A) (c : Structure) (table : ℕ) (bs : List ℕ)
      → x c.base (drop c.prefix bs) ≡ y c.base (drop c.prefix bs) → after x (some c) table bs ≡ after y (some c) table bs
  none_yet : (table : ℕ) (bs : List ℕ) → within zero table bs ≡ nothing
  one_more : (f table : ℕ) (bs : List ℕ) → within (suc f) table bs ≡ after (within f) (matching (table_of tables table) bs) table bs

module _ (n : ℕ) (tables : List (List Structure)) (right : every (table_right n) tables ≡ true) where
  -- a table that has a structure is one of the tables, and right
  pub table_there : (table : ℕ) → 0 < length (table_of tables table) → RightTable n (table_of tables table)
  unfolding table_of
  table_there zero h = absurd (omega arith)
  table_there (suc t) h = go (dec_lt t (length tables))
    where
      go : Dec (t < length tables) → RightTable n (get_or tables t [])
      go (yes l) = right_at n tables right t l
      go (no l) = absurd (omega (arith, ap length (get_or-eq_default tables [] {n = t} (omega arith))))

  -- its structures are right
  pub structure_there : (table k : ℕ) → k < length (table_of tables table)
      → structure_right n (get_or (table_of tables table) k no_structure) ≡ true
  structure_there table k h = every_at (structure_right n) no_structure (table_of tables table) (table_there table (omega arith)).right k h

  -- so is one that is matched there
  pub matched_right : (table : ℕ) (bs : List ℕ) (c : Structure) → matching (table_of tables table) bs ≡ some c → structure_right n c ≡ true
  matched_right table bs c h =
      let m = matched (table_of tables table) bs c h in
      rw m.stands at (structure_there table m.place m.there)

  -- it takes a bit at least
  pub falls : (table : ℕ) (bs : List ℕ) (c : Structure) → matching (table_of tables table) bs ≡ some c
      → length (drop c.prefix bs) < length bs
  falls table bs c h =
      let f = fine n c (matched_right table bs c h) in
      let m = matched (table_of tables table) bs c h in
      omega (arith, f.some, m.long, length-drop c.prefix bs)

  -- of no bits nothing is matched
  none_left : (table : ℕ) (bs : List ℕ) (m : Option Structure) → length bs ≤ 0 → matching (table_of tables table) bs ≡ m → m ≡ none
  none_left table bs none h e = refl
  none_left table bs (some c) h e = absurd (omega (arith, falls table bs c e))

  module _ {A : Type 0} {nothing : A} {after : (ℕ → List ℕ → A) → Option Structure → ℕ → List ℕ → A} {within : ℕ → ℕ → List ℕ → A}
      (by : CodeByCode tables nothing after within) where
    -- two ways to carry on that agree on fewer bits agree after a match
    after_same : (x y : ℕ → List ℕ → A) (table : ℕ) (bs : List ℕ) (m : Option Structure) → matching (table_of tables table) bs ≡ m
        → ((k : ℕ) (l : List ℕ) → length l < length bs → x k l ≡ y k l) → after x m table bs ≡ after y m table bs
    after_same x y table bs none e same = by.unmatched x table bs ∙ sym (by.unmatched y table bs)
    after_same x y table bs (some c) e same = by.behind x y c table bs (same c.base (drop c.prefix bs) (falls table bs c e))

    -- of no bits nothing is found
    nothing_found : (x : ℕ → List ℕ → A) (table : ℕ) (bs : List ℕ) → length bs ≤ 0 → after x (matching (table_of tables table) bs) table bs ≡ nothing
    nothing_found x table bs h =
        ap (λ (m : Option Structure). after x m table bs) (none_left table bs (matching (table_of tables table) bs) h refl)
        ∙ by.unmatched x table bs

    -- as many codes as bits are enough
    enough : (f g table : ℕ) (bs : List ℕ) → length bs ≤ f → length bs ≤ g → within f table bs ≡ within g table bs
    enough zero zero table bs hf hg = refl
    enough zero (suc g) table bs hf hg = by.none_yet table bs ∙ sym (by.one_more g table bs ∙ nothing_found (within g) table bs hf)
    enough (suc f) zero table bs hf hg = by.one_more f table bs ∙ nothing_found (within f) table bs hg ∙ sym (by.none_yet table bs)
    enough (suc f) (suc g) table bs hf hg =
        by.one_more f table bs
        ∙ after_same (within f) (within g) table bs (matching (table_of tables table) bs) refl
        (λ k l h. enough f g k l (omega arith) (omega arith))
        ∙ sym (by.one_more g table bs)

    -- a code is matched in the current table, and what follows is found in the same way
    step : (table : ℕ) (bs : List ℕ)
        → within (length bs) table bs ≡ after (λ k l. within (length l) k l) (matching (table_of tables table) bs) table bs
    step table [] = by.none_yet table [] ∙ sym (nothing_found (λ k l. within (length l) k l) table [] (omega arith))
    step table (b ∷ bs) =
        by.one_more (length bs) table (b ∷ bs)
        ∙ after_same (within (length bs)) (λ k l. within (length l) k l) table (b ∷ bs) (matching (table_of tables table) (b ∷ bs)) refl
        (λ k l h. enough (length bs) (length l) k l (omega arith) (omega arith))

  -- a value is read so
  pub read_step : (table : ℕ) (bs : List ℕ)
      → read_coded tables table bs ≡ after_match (read_coded tables) (matching (table_of tables table) bs) table bs
  unfolding read_coded read_within after_match
  read_step table bs =
      step {nothing = stuck} {after = after_match} {within = λ f. read_within f tables} (record {
        unmatched = λ x t l. refl;
        behind = λ x y c t l e. rw e;
        none_yet = λ t l. refl;
        one_more = λ f t l. refl;
      })
      table
      bs

  -- and the structures compared for it are summed up so
  pub compared_step : (table : ℕ) (bs : List ℕ) →
      let cs = table_of tables table in
      compared_coded tables table bs ≡ compared_after (compared_coded tables) cs (matching cs bs) bs
  unfolding compared_coded compared_within compared_after
  compared_step table bs =
      step {nothing = 0} {after = λ x m t l. compared_after x (table_of tables t) m l} {within = λ f. compared_within f tables} (record {
        unmatched = λ x t l. refl;
        behind = λ x y c t l e. rw e;
        none_yet = λ t l. refl;
        one_more = λ f t l. refl;
      })
      table
      bs

  -- a switch carries on in the table that it leads to
  pub read_switch : (table : ℕ) (bs : List ℕ) (c : Structure) → matching (table_of tables table) bs ≡ some c → c.mode ≡ 0
      → read_coded tables table bs ≡ read_coded tables c.base (drop c.prefix bs)
  unfolding after_match
  read_switch table bs c h m = rw (read_step table bs, h, eq-eqb c.mode 0 m)

  -- a value ends the step
  pub read_value : (table : ℕ) (bs : List ℕ) (c : Structure) → matching (table_of tables table) bs ≡ some c → (c.mode ≡ 0 → ⊥)
      → read_coded tables table bs ≡ value_of (remainder_of c) c.base table (drop c.prefix bs)
  unfolding after_match
  read_value table bs c h m = rw (read_step table bs, h, ne_eqb c.mode 0 m)

  -- a switch counts with the codes behind it, and a value's code is the last
  pub compared_switch : (table : ℕ) (bs : List ℕ) (c : Structure) → matching (table_of tables table) bs ≡ some c → c.mode ≡ 0
      → compared_coded tables table bs ≡ compared_in (table_of tables table) bs + compared_coded tables c.base (drop c.prefix bs)
  unfolding compared_after
  compared_switch table bs c h m = rw (compared_step table bs, h, eq-eqb c.mode 0 m)

  pub compared_value : (table : ℕ) (bs : List ℕ) (c : Structure) → matching (table_of tables table) bs ≡ some c → (c.mode ≡ 0 → ⊥)
      → compared_coded tables table bs ≡ compared_in (table_of tables table) bs
  unfolding compared_after
  compared_value table bs c h m = rw (compared_step table bs, h, ne_eqb c.mode 0 m, add-zero (compared_in (table_of tables table) bs))

  -- a code that matches nothing gives none
  pub read_none : (table : ℕ) (bs : List ℕ) → matching (table_of tables table) bs ≡ none → read_coded tables table bs ≡ stuck
  unfolding after_match
  read_none table bs h = rw (read_step table bs, h)

-- tables, one at least, are those that a value is read by
pub next_coded : (tables : List (List Structure)) → 1 ≤ length tables → (table : ℕ) (bs : List ℕ)
    → read_next tables table bs ≡ read_coded tables table bs
unfolding read_next
next_coded [] h table bs = absurd (omega arith)
next_coded (cs ∷ tables) h table bs = refl

pub compared_coded_lem : (tables : List (List Structure)) → 1 ≤ length tables → (table : ℕ) (bs : List ℕ)
    → compared_next tables table bs ≡ compared_coded tables table bs
unfolding compared_next
compared_coded_lem [] h table bs = absurd (omega arith)
compared_coded_lem (cs ∷ tables) h table bs = refl

-- the table of a number, counted from 0
pub table_at : (tables : List (List Structure)) (table : ℕ) → 1 ≤ table → table_of tables table ≡ get_or tables (table - 1) []
unfolding table_of
table_at tables zero h = absurd (omega arith)
table_at tables (suc t) h = let e : suc t - 1 ≡ t = omega arith in rw e

-- ---- values and switches

-- no remainder: the base value
pub value_base : (r base table : ℕ) (bs : List ℕ) → r ≡ 0 → value_of r base table bs ≡ gave (signed 16 base) table bs
unfolding value_of
value_base r base table bs e = rw e

-- a remainder that is there is the value
pub value_rest : (r w base table : ℕ) (bs : List ℕ) → r ≡ suc w → r ≤ length bs
    → value_of r base table bs ≡ gave (signed (suc w) (number_of (take r bs))) table (drop r bs)
unfolding value_of
value_rest r w base table bs e h = let g : leb (suc w) (length bs) ≡ true = le-leb (suc w) (length bs) (omega arith) in rw (e, g)

-- a remainder that is not there
pub value_short : (r base table : ℕ) (bs : List ℕ) → length bs < r → value_of r base table bs ≡ stuck
unfolding value_of
value_short zero base table bs h = absurd (omega arith)
value_short (suc w) base table bs h = rw (lt-leb (suc w) (length bs) h)

-- a form that leads nowhere is a value's
pub to_value : (n : ℕ) (d : Structure) → structure_right n d ≡ true → (form_of d).to ≡ 0 → d.mode ≡ 0 → ⊥
unfolding form_of
to_value n d right h m =
    let s = (fine n d right).switch m in
    omega (arith, s.1, rw (eq-eqb d.mode 0 m) at h)

-- a form that leads on is a switch's, and leads where its base value says
pub to_switch : (d : Structure) → ((form_of d).to ≡ 0 → ⊥) → (d.mode ≡ 0) × (d.base ≡ (form_of d).to)
unfolding form_of
to_switch d h = go (eqb d.mode 0) refl
  where
    go : (b : Bool) → eqb d.mode 0 ≡ b → (d.mode ≡ 0) × (d.base ≡ (form_of d).to)
    go true e = (eqb-true d.mode 0 e, rw e)
    go false e = absurd (h (rw e))

-- ---- what was read

pub gave_value : {a b : ℤ} {i j : ℕ} {l m : List ℕ} → gave a i l ≡ gave b j m → a ≡ b
gave_value e = cc

pub gave_table : {a b : ℤ} {i j : ℕ} {l m : List ℕ} → gave a i l ≡ gave b j m → i ≡ j
gave_table e = cc

pub gave_rest : {a b : ℤ} {i j : ℕ} {l m : List ℕ} → gave a i l ≡ gave b j m → l ≡ m
gave_rest e = cc
