-- A cursor's steps: values held with 131,072 added, the search for a structure's form, and what a form that was found says. Assumes
-- nothing.
use Prim.Native.Nat.{ℕ, zero, suc, ◌+◌, ◌-◌, ◌*◌, ◌/◌, ◌%◌, ◌^◌, ◌≤◌, ◌<◌}
use mathlib.Core.Path.{◌≡◌, refl, sym, ap, subst, ◌∙◌}
use mathlib.Core.Bool.{true, false}
use mathlib.Core.List.{List, []}
use mathlib.Core.Logic.{inl, inr}
use mathlib.Core.Option.{Option, none, some}
use native.Mathlib.Nat.{mod-lt, pow-suc}
use native.Mathlib.Decide.{dec_lt}
use native.Mathlib.Omega.{arith}
use borrow.Author.Tests.{lt-ltb, le-ltb, ne_eqb}
use lib.IntN.{negsuc}
use lib.ListN.{length, get_or, drop, length-drop, drop_of_length-le}
use lib.Pow.{pow_pos, pow_mono, shr_lt}
use lib.Seq.{drop-cons, drop-drop}
use Rattle.wire.proofs.Laws.{unlike}
use Rattle.wire.specs.Bounds.{most_structures}
use Rattle.wire.specs.RuleWords.{every}
use Rattle.bits.specs.Bits.{signed, begins, bits_in}
use Rattle.bits.specs.InnerRaised.{from_zero}
use Rattle.bits.specs.InnerWindow.{Window}
use Rattle.bits.proofs.Laws.{length_bits_in, small_drop, small_bits_in}
use Rattle.tables.specs.declared.Structure.{Structure}
use Rattle.tables.specs.Structures.{prefix_of, remainder_of, structure_right, no_structure}
use Rattle.tables.specs.Section2.{table_of, table_right}
use Rattle.compiled.specs.declared.Form.{Form}
use Rattle.compiled.specs.InnerForm.{lowest, form_of, Compiled, CompiledOrNone}
use Rattle.compiled.proofs.Laws.{FineForm, form_fine, held_right, held_count}
use Rattle.reading.specs.Reading.{matching, value_of, read_coded, read_plain, read_next}
use Rattle.reading.specs.Compared.{compared_in, compared_coded, compared_next}
use Rattle.std.specs.Prelude.{Option as Answer, None, Some}
use Rattle.reading.specs.declared.Cursor.{Cursor}
use Rattle.reading.specs.InnerCursor.{Seen, found_in, formed, Placed, Onward}
use Rattle.reading.proofs.Laws.{matched, table_at, read_switch, read_value, compared_switch, compared_value, to_value, to_switch}

-- ---- two's complement, 131,072 added

-- a number of the lower half
pub lower_low : (w n : ℕ) → n < 2 ^ w → from_zero 131072 (131072 + n) ≡ signed (suc w) n
unfolding from_zero signed
lower_low w n h =
    let e : suc w - 1 ≡ w = omega arith in
    let back : 131072 + n - 131072 ≡ n = omega arith in
    simp (e, lt-ltb n (2 ^ w) h, le-ltb (131072 + n) 131072 (omega arith), back)

-- a number of the upper half
pub lower_high : (w n : ℕ) → 2 ^ w ≤ n → n < 2 * 2 ^ w → 2 ^ w ≤ 65536 → from_zero 131072 (131072 + n - 2 * 2 ^ w) ≡ signed (suc w) n
unfolding from_zero signed
lower_high w n h g l =
    let e : suc w - 1 ≡ w = omega arith in
    let x = 131072 + n - 2 * 2 ^ w in
    let back : 131072 - suc x ≡ 2 ^ suc w - suc n = rw (pow-suc 2 w) (omega arith) in
    simp (e, le-ltb n (2 ^ w) h, lt-ltb x 131072 (omega arith)) (ap negsuc back)

-- a base value
pub lower_base : (base : ℕ) → base < 65536 → from_zero 131072 (lowest base 0) ≡ signed 16 base
lower_base base h = go (dec_lt base 32768)
  where
    go : Dec (base < 32768) → from_zero 131072 (lowest base 0) ≡ signed 16 base
    go (yes l) = let e : lowest base 0 ≡ 131072 + base = omega arith in rw e (lower_low 15 base l)
    go (no l) =
        let e : lowest base 0 ≡ 131072 + base - 2 * 2 ^ 15 = omega arith in
        rw e (lower_high 15 base (omega arith) (omega arith) (omega arith))

-- the highest q bits of 64 are a number below 2 ^ q
pub high_small : (x q : ℕ) → q ≤ 64 → x % 2 ^ 64 / 2 ^ (64 - q) < 2 ^ q
high_small x q h =
    let e : q + (64 - q) ≡ 64 = omega arith in
    shr_lt q (64 - q) (rw e (mod-lt x (pow_pos 64)))

-- ---- the bits that are left of a stream

-- how many are left from a place on
pub length_left : (s : List ℕ) (at : ℕ) → length (drop at (bits_in s)) ≡ length s * 8 - at
length_left s at = simp (length-drop, length_bits_in)

-- they are seen through their window
pub seen_left : (s : List ℕ) (at w : ℕ) → Window (drop at (bits_in s)) w → Seen (drop at (bits_in s)) w (length s * 8 - at)
seen_left s at w h = record { window = h; small = small_drop at (bits_in s) (small_bits_in s); count = length_left s at }

-- ---- the search

-- what the structure at k and those behind it match, and how many of them are compared
module _ (cs : List Structure) (bs : List ℕ) (k : ℕ) (h : k < length cs) where
  -- the bits begin with its prefix
  pub matching_here : begins (prefix_of (get_or cs k no_structure)) bs ≡ true
      → (matching (drop k cs) bs ≡ some (get_or cs k no_structure)) × (compared_in (drop k cs) bs ≡ 1)
  unfolding matching compared_in
  matching_here e = (rw (drop-cons cs k no_structure h, e), rw (drop-cons cs k no_structure h, e))

  -- they do not, so those behind it decide
  pub matching_behind : begins (prefix_of (get_or cs k no_structure)) bs ≡ false
      → (matching (drop k cs) bs ≡ matching (drop (suc k) cs) bs) × (compared_in (drop k cs) bs ≡ suc (compared_in (drop (suc k) cs) bs))
  unfolding matching compared_in
  matching_behind e = (rw (drop-cons cs k no_structure h, e), rw (drop-cons cs k no_structure h, e))

-- no structure is left
pub matching_end : (cs : List Structure) (bs : List ℕ) (k : ℕ) → length cs ≤ k → matching (drop k cs) bs ≡ none
unfolding matching
matching_end cs bs k h = rw (drop_of_length-le cs h)

-- what was found is the form of a structure that is matched
found_some : (m : Option Structure) (f : Form) → some f ≡ formed m → (c : Structure) × (m ≡ some c) × (form_of c ≡ f)
found_some none f h = unlike cc
found_some (some c) f h = let e : form_of c ≡ f = cc in (c, refl, e)

-- no form comes of no structure alone
none_formed : (m : Option Structure) → none ≡ formed m → m ≡ none
none_formed none h = refl
none_formed (some c) h = cc

-- a form that is that of a right structure, which is matched at a place of a table
pub record FoundForm (tables : List (List Structure)) (table : ℕ) (bs : List ℕ) (f : Form) (place : ℕ) : Type 0 where
  pub structure : Structure
  pub match : matching (table_of tables table) bs ≡ some structure
  pub form : form_of structure ≡ f
  pub right : structure_right 8 structure ≡ true
  pub small : structure.base < 65536
  pub fine : FineForm f
  pub long : f.prefix ≤ length bs
  pub counted : compared_in (table_of tables table) bs ≡ place
  pub few : place ≤ most_structures

-- a form that was found is such a one
pub found_form : {tables : List (List Structure)} {tab : List ℕ} → Compiled tables tab → (table : ℕ) → 1 ≤ table → table ≤ 8
    → (bs : List ℕ) (r : Answer (Form × ℕ)) (f : Form) (place : ℕ) → r ≡ Some (f, place) →
    let cs = get_or tables (table - 1) [] in
    found_in r ≡ formed (matching cs bs) → Placed (compared_in cs bs) r → FoundForm tables table bs f place
unfolding form_of
found_form {tables} ready table h g bs r f place is told placed =
    let found : some f ≡ formed (matching (get_or tables (table - 1) []) bs) = sym (ap found_in is) ∙ told in
    let at : place ≡ compared_in (get_or tables (table - 1) []) bs = subst (Placed (compared_in (get_or tables (table - 1) []) bs)) is placed in
    let t = table - 1 in
    let l : t < 8 = omega arith in
    let cs = get_or tables t [] in
    let d = found_some (matching cs bs) f found in
    let m = matched cs bs d.0 d.1 in
    let right = rw m.stands at (held_right ready t l m.place (omega (arith, m.there, (ready.says t l).count))) in
    record {
      structure = d.0;
      match = rw (table_at tables table h) d.1;
      form = d.2;
      right = right;
      small = rw m.stands at (ready.two_bytes t m.place);
      fine = rw (← d.2) (form_fine 8 d.0 (omega arith) right);
      long = rw (← d.2) m.long;
      counted = ap (λ (l : List Structure). compared_in l bs) (table_at tables table h) ∙ sym at;
      few = omega (arith, m.counted, m.there, held_count ready t l, (ready.says t l).count);
    }

module _ {tables : List (List Structure)} {table : ℕ} {f : Form} {place : ℕ} (right : every (table_right (length tables)) tables ≡ true) where
  -- the form of a value ends the step
  pub read_form : {bs : List ℕ} (d : FoundForm tables table bs f place) → f.to ≡ 0
      → (read_coded tables table bs
      ≡ value_of (remainder_of d.structure) d.structure.base table (drop d.structure.prefix bs))
      × (compared_coded tables table bs ≡ place)
  read_form {bs} d h =
      let value = to_value 8 d.structure d.right (ap (λ (x : Form). x.to) d.form ∙ h) in (
        read_value (length tables) tables right table bs d.structure d.match value,
        compared_value (length tables) tables right table bs d.structure d.match value ∙ d.counted,
      )

  -- the form of a switch carries on
  pub read_on : (at : ℕ) (l : List ℕ) → FoundForm tables table (drop at l) f place → (f.to ≡ 0 → ⊥) →
      let behind = drop (at + f.prefix) l in
      (read_coded tables table (drop at l) ≡ read_coded tables f.to behind)
      × (compared_coded tables table (drop at l) ≡ place + compared_coded tables f.to behind)
  unfolding form_of
  read_on at l d h =
      let to = ap (λ (x : Form). x.to) d.form in
      let s = to_switch d.structure (λ e. h (sym to ∙ e)) in
      let p : d.structure.prefix ≡ f.prefix = ap (λ (x : Form). x.prefix) d.form in
      let on = drop-drop d.structure.prefix at l in (
        read_switch (length tables) tables right table (drop at l) d.structure d.match s.0 ∙ rw (s.1 ∙ to, on, p),
        compared_switch (length tables) tables right table (drop at l) d.structure d.match s.0 ∙ rw (s.1 ∙ to, on, p, d.counted),
      )

-- nothing was found, so nothing is matched
pub found_none : (tables : List (List Structure)) (table : ℕ) (bs : List ℕ) → 1 ≤ table
    → none ≡ formed (matching (get_or tables (table - 1) []) bs) → matching (table_of tables table) bs ≡ none
found_none tables table bs h found = rw (table_at tables table h) (none_formed (matching (get_or tables (table - 1) []) bs) found)

-- ---- what a value's form says

-- what a value's form says of its structure
pub record ValueForm (d : Structure) (f : Form) : Type 0 where
  pub prefix : d.prefix ≡ f.prefix
  pub rest : remainder_of d ≡ f.remainder
  pub lo : f.lo ≡ lowest d.base f.remainder
  pub fine : FineForm f

-- so says the form of a right structure that leads nowhere
pub value_form : (d : Structure) (f : Form) → form_of d ≡ f → structure_right 8 d ≡ true → f.to ≡ 0 → ValueForm d f
unfolding form_of
value_form d f e right h =
    let m = to_value 8 d right (ap (λ (x : Form). x.to) e ∙ h) in
    let plain = ne_eqb d.mode 0 m in
    record {
      prefix = ap (λ (x : Form). x.prefix) e;
      rest = ap (λ (x : Form). x.remainder) e;
      lo = rw (← e, plain);
      fine = rw (← e) (form_fine 8 d (omega arith) right);
    }

-- the least value that a remainder serves is half of its numbers below 131,072
half_of : (base q : ℕ) → (q ≡ 0 → ⊥) → q ≤ 16
    → (w : ℕ) × (q ≡ suc w) × (131072 - lowest base q ≡ 2 ^ w) × (lowest base q ≤ 131072) × (2 ^ w ≤ 32768)
half_of base zero h g = absurd (h refl)
half_of base (suc w) h g = let l = pow_mono {i = w} {j = 15} (omega arith) in (w, refl, omega arith, omega arith, omega arith)

-- so is that of a value's form
pub rest_half : {d : Structure} {f : Form} → ValueForm d f → (f.remainder ≡ 0 → ⊥)
    → (w : ℕ) × (f.remainder ≡ suc w) × (131072 - f.lo ≡ 2 ^ w) × (f.lo ≤ 131072) × (2 ^ w ≤ 32768)
rest_half {d} {f} v h = rw v.lo (half_of d.base f.remainder h v.fine.rest)

-- ---- the next value of a stream

-- no numbers hold no tables, so that a value is two bytes, and nothing is compared
pub next_plain : (tables : List (List Structure)) (tab : List ℕ) → CompiledOrNone tables tab → length tab ≡ 0
    → (table : ℕ) (bs : List ℕ) → (read_next tables table bs ≡ read_plain table bs) × (compared_next tables table bs ≡ 0)
unfolding read_next compared_next
next_plain tables tab (inl ready) e table bs = absurd (omega (arith, ready.room))
next_plain tables tab (inr empty) e table bs = (rw empty.0, rw empty.0)

-- ---- cursors that are further on

-- what is further on than a place is further on than one before
pub onward_from : (a b n : ℕ) → a ≤ b → (r : Answer (ℕ × Cursor)) → Onward b n r → Onward a n r
onward_from a b n h (Some x) o = omega arith
onward_from a b n h None o = tt
