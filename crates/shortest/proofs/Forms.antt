-- A structure's form, on which the engines run, and what it says of its code: what it does for a value that is held with 131,072
-- added, its word, and which of two words of a table is the smaller. Assumes nothing.
use Prim.Native.Nat.{ℕ, zero, suc, ◌+◌, ◌-◌, ◌*◌, ◌/◌, ◌%◌, ◌^◌, ◌≤◌, ◌<◌}
use mathlib.Core.Path.{◌≡◌, refl, sym, ap, ◌∙◌}
use mathlib.Core.Bool.{Bool, true, false, cond, not, ◌&&◌}
use mathlib.Core.List.{List, [], ◌∷◌}
use mathlib.Core.Logic.{◌⊎◌, inl, inr, ⊎_elim}
use native.Mathlib.Nat.{eq-or-lt_of_le, mod-lt, mod-eq_of_lt, lt_of_mul-lt-mul_right, mul-add-mod_self_right}
use native.Mathlib.Nat.{mul-le-mul_right, add-mul, mul_assoc, zero-add}
use native.Mathlib.Decide.{dec_lt, ℕ_discrete}
use native.Mathlib.Omega.{arith}
use borrow.Author.Tests.{ltb-true, ltb-false, lt-ltb, le-ltb, eq-eqb, ne_eqb, eqb-true, eqb-false}
use lib.Dec.{ltb, eqb}
use lib.IntN.{ℤ, pos, negsuc}
use lib.ListN.{length}
use lib.Pow.{pow_pos, pow_mono, pow-add, split, shl_lt}
use lib.Signed.{mag}
use Rattle.wire.proofs.Laws.{unlike}
use Rattle.wire.specs.RuleWords.{every}
use Rattle.bits.specs.Bits.{number_after, number_of, signed, begins}
use Rattle.bits.specs.InnerRaised.{from_zero}
use Rattle.bits.specs.InnerWindow.{turned}
use Rattle.bits.proofs.Laws.{Small, length_low_first, small_low_first, number_after_lem, number_small}
use Rattle.bits.proofs.Raised.{lower_one, mag_inside, mag_outside}
use Rattle.tables.specs.declared.Structure.{Structure}
use Rattle.tables.specs.Structures.{prefix_of, remainder_of, structure_right, apart}
use Rattle.tables.specs.Section2.{table_of, table_right}
use Rattle.tables.proofs.Laws.{fine, free_at}
use Rattle.compiled.specs.declared.Form.{Form}
use Rattle.compiled.specs.InnerForm.{lowest, beyond, form_of}
use Rattle.reading.proofs.Laws.{table_there, to_value, to_switch}
use Rattle.reading.proofs.Cursors.{lower_base}
use Rattle.paths.specs.Before.{Before, here, there}
use Rattle.paths.specs.InnerPaths.{dead, gives, leads, NotAfter}
use Rattle.paths.proofs.Compared.{before_tails}
use Rattle.shortest.specs.InnerRule.{twos, holds, equal, serves, kind_of, word_of, structure_of, rule}
use Rattle.shortest.proofs.Laws.{equal_true, equal_self, kind_switch, kind_value, kind_dead}
use Rattle.shortest.proofs.Bridge.{structure_fine, length_word}

-- ---- values held with 131,072 added

-- a multiple of p less a number, modulo p
back_mod : (p q d r : ℕ) → r < p → (suc (q + d) * p - suc (q * p + r)) % p ≡ p - suc r
back_mod p q d r h =
    let e : suc (q + d) * p - suc (q * p + r) ≡ d * p + (p - suc r) = omega arith in
    ap (λ (y : ℕ). y % p) e ∙ mul-add-mod_self_right d p (p - suc r) ∙ mod-eq_of_lt (omega arith)

-- the w lowest bits are those of the number that is held
pub twos_lower : (w x : ℕ) → w ≤ 17 → twos w (from_zero 131072 x) ≡ x % 2 ^ w
unfolding twos from_zero
twos_lower w x h = go (ltb x 131072) refl
  where
    p : ℕ
    p = 2 ^ w

    m : ℕ
    m = 2 ^ (17 - w)

    all : m * p ≡ 131072
    all = let e : 17 - w + w ≡ 17 = omega arith in sym (pow-add 2 (17 - w) w) ∙ ap (λ (i : ℕ). 2 ^ i) e

    go : (b : Bool) → ltb x 131072 ≡ b → twos w (cond b (negsuc (131072 - suc x)) (pos (x - 131072))) ≡ x % 2 ^ w
    go true e =
        let l : x < 131072 = ltb-true x 131072 e in
        let q = x / p in
        let r = x % p in
        let s : q * p + r ≡ x = split x w in
        let lr : r < p = mod-lt x (pow_pos w) in
        let lq : q < m = lt_of_mul-lt-mul_right p {m = q} {n = m} (omega (arith, all)) in
        let d = m - suc q in
        let em : m ≡ suc (q + d) = omega arith in
        let whole : suc (q + d) * p ≡ 131072 = ap (λ (y : ℕ). y * p) (sym em) ∙ all in
        let back : (131072 - suc x) % p ≡ p - suc r = rw (whole, s) at (back_mod p q d r lr) in
        rw back (omega arith)
    go false e =
        let l : 131072 ≤ x = ltb-false x 131072 e in
        let s : m * p + (x - 131072) ≡ x = omega (arith, all) in
        sym (mul-add-mod_self_right m p (x - 131072)) ∙ ap (λ (y : ℕ). y % p) s

-- the values that a value's structure serves are those from `lowest` up to `beyond`
serves_inside : (r base x : ℕ) → r ≤ 16 → base < 65536 → lowest base r ≤ x → x < beyond base r → serves r base (from_zero 131072 x) ≡ true
unfolding serves holds
serves_inside zero base x h b g l =
    let e : x ≡ lowest base 0 = omega arith in
    rw (e, lower_base base b) (equal_self (signed 16 base))
serves_inside (suc w) base x h b g l =
    let m = pow_mono {i = w} {j = 15} (omega arith) in
    lt-ltb (mag (from_zero 131072 x)) (2 ^ w) (mag_inside 131072 x (2 ^ w) (omega arith) (omega arith))

serves_outside : (r base x : ℕ) → r ≤ 16 → base < 65536 → (x < lowest base r) ⊎ (beyond base r ≤ x) → serves r base (from_zero 131072 x) ≡ false
unfolding serves holds
serves_outside zero base x h b o = go (equal (signed 16 base) (from_zero 131072 x)) refl
  where
    go : (t : Bool) → equal (signed 16 base) (from_zero 131072 x) ≡ t → t ≡ false
    go true e =
        let same = equal_true (signed 16 base) (from_zero 131072 x) e in
        let q : lowest base 0 ≡ x = lower_one 131072 (lowest base 0) x (lower_base base b ∙ same) in
        absurd (⊎_elim (λ l. omega arith) (λ l. omega arith) o)
    go false e = refl
serves_outside (suc w) base x h b o =
    let m = pow_mono {i = w} {j = 15} (omega arith) in
    le-ltb (mag (from_zero 131072 x)) (2 ^ w) (mag_outside 131072 x (2 ^ w) (⊎_elim (λ l. inl (omega arith)) (λ l. inr (omega arith)) o))

-- ---- a right structure's form, its base value of two bytes

module _ (n : ℕ) (c : Structure) (right : structure_right n c ≡ true) (small : c.base < 65536) (f : Form) (form : form_of c ≡ f)
    (x : ℕ) where
  -- a switch
  pub form_leads : (f.to ≡ 0 → ⊥) → kind_of c (from_zero 131072 x) ≡ leads f.to
  form_leads h =
      let to = ap (λ (g : Form). g.to) form in
      let s = to_switch c (λ e. h (sym to ∙ e)) in
      kind_switch c (from_zero 131072 x) s.0 ∙ ap leads (s.1 ∙ to)

  form_value : f.to ≡ 0 → (c.mode ≡ 0 → ⊥) × (f.lo ≡ lowest c.base (remainder_of c)) × (f.hi ≡ beyond c.base (remainder_of c))
  unfolding form_of
  form_value h =
      let m = to_value n c right (ap (λ (g : Form). g.to) form ∙ h) in
      let plain = ne_eqb c.mode 0 m in
      (m, rw (← form, plain), rw (← form, plain))

  -- a value's structure with a code for the value
  pub form_gives : f.to ≡ 0 → f.lo ≤ x → x < f.hi → kind_of c (from_zero 131072 x) ≡ gives
  form_gives h g l =
      let v = form_value h in
      let ok = fine n c right in
      kind_value c (from_zero 131072 x) v.0
      (serves_inside (remainder_of c) c.base x (omega (arith, ok.rest)) small (omega (arith, v.1)) (omega (arith, v.2)))

  -- and one without
  pub form_dead : f.to ≡ 0 → (x < f.lo) ⊎ (f.hi ≤ x) → kind_of c (from_zero 131072 x) ≡ dead
  form_dead h o =
      let v = form_value h in
      let ok = fine n c right in
      kind_dead c (from_zero 131072 x) v.0
      (serves_outside (remainder_of c) c.base x (omega (arith, ok.rest)) small (rw (v.1, v.2) at o))

  -- how long its code word is
  pub form_length : length (word_of c (from_zero 131072 x)) ≡ f.prefix + f.remainder
  unfolding form_of
  form_length = rw (← form) (length_word c (from_zero 131072 x))

-- ---- which of two words of a table is the smaller

-- the number that bits are, moved up to the highest of w
abbrev moved : ℕ → List ℕ → ℕ
moved w l = number_of l * 2 ^ (w - length l)

moved_small : (w : ℕ) (l : List ℕ) → Small l → length l ≤ w → moved w l < 2 ^ w
moved_small w l small h =
    let e : length l + (w - length l) ≡ w = omega arith in
    rw e at (shl_lt (length l) (w - length l) (number_small l small))

moved_cons : (w b : ℕ) (l : List ℕ) → length l ≤ w → moved (suc w) (b ∷ l) ≡ b * 2 ^ w + moved w l
unfolding number_after
moved_cons w b l h =
    let k = w - length l in
    let less : suc w - suc (length l) ≡ k = omega arith in
    let whole : length l + k ≡ w = omega arith in
    rw (
      zero-add b,
      number_after_lem b l,
      less,
      add-mul (b * 2 ^ length l) (number_of l) (2 ^ k),
      mul_assoc b (2 ^ length l) (2 ^ k),
      ← pow-add 2 (length l) k,
      whole,
    )

-- the smaller at the first differing bit is the smaller number
before_moved : (w : ℕ) {a b : List ℕ} → Before a b → Small a → Small b → length a ≤ w → length b ≤ w → moved w a < moved w b
before_moved zero (here {x = x} {y = y} {a = a} {b = b} l) sa sb ha hb = absurd (omega arith)
before_moved zero (there h) sa sb ha hb = absurd (omega arith)
before_moved (suc w) (here {x = x} {y = y} {a = a} {b = b} l) sa sb ha hb =
    let ma = moved_cons w x a (omega arith) in
    let mb = moved_cons w y b (omega arith) in
    let la = moved_small w a (λ i. sa (suc i)) (omega arith) in
    let more = mul-le-mul_right (2 ^ w) l in
    omega arith
before_moved (suc w) (there {x = x} {a = a} {b = b} h) sa sb ha hb =
    let ma = moved_cons w x a (omega arith) in
    let mb = moved_cons w x b (omega arith) in
    let l = before_moved w h (λ i. sa (suc i)) (λ i. sb (suc i)) (omega arith) (omega arith) in
    omega arith

-- of two lists of bits that do not begin one another one is the smaller
apart_before : (a b : List ℕ) → begins a b ≡ false → begins b a ≡ false → Before a b ⊎ Before b a
unfolding begins
apart_before [] b h g = unlike cc
apart_before (x ∷ a) [] h g = unlike cc
apart_before (x ∷ a) (y ∷ b) h g = go (eqb x y) refl h g (apart_before a b)
  where
    go : (t : Bool) → eqb x y ≡ t → t && begins a b ≡ false → eqb y x && begins b a ≡ false
        → (begins a b ≡ false → begins b a ≡ false → Before a b ⊎ Before b a) → Before (x ∷ a) (y ∷ b) ⊎ Before (y ∷ b) (x ∷ a)
    go true e p q rest =
        let same = eqb-true x y e in
        rw same (⊎_elim (λ l. inl (there l)) (λ l. inr (there l)) (rest p (rw (eq-eqb y x (sym same)) at q)))
    go false e p q rest = differ (dec_lt x y) (eqb-false x y e)
      where
        differ : Dec (x < y) → (x ≡ y → ⊥) → Before (x ∷ a) (y ∷ b) ⊎ Before (y ∷ b) (x ∷ a)
        differ (yes l) n = inl (here l)
        differ (no l) n = inr (here (⊎_elim (λ e. absurd (n (sym e))) (λ l. l) (eq-or-lt_of_le (omega arith))))

-- the place of a form's word among those of its table: the word of the prefix, moved up to the highest of 32 bits
abbrev pub rank_of : Form → ℕ
rank_of f = f.word * 2 ^ (32 - f.prefix)

rank_moved : (c : Structure) → rank_of (form_of c) ≡ moved 32 (prefix_of c)
unfolding form_of turned
rank_moved c = rw (length_low_first c.prefix c.code)

both_not : (a b : Bool) → not a && not b ≡ true → (a ≡ false) × (b ≡ false)
both_not true b h = unlike cc
both_not false true h = unlike cc
both_not false false h = (refl, refl)

-- two structures of one right table
module _ (n : ℕ) (tables : List (List Structure)) (right : every (table_right n) tables ≡ true) (t j k : ℕ)
    (hj : j < length (table_of tables t)) (hk : k < length (table_of tables t)) where
  -- neither prefix begins the other
  prefixes_apart : (j ≡ k → ⊥)
      → (begins (prefix_of (structure_of tables t j)) (prefix_of (structure_of tables t k)) ≡ false)
      × (begins (prefix_of (structure_of tables t k)) (prefix_of (structure_of tables t j)) ≡ false)
  unfolding apart
  prefixes_apart d = go (dec_lt j k)
    where
      free : (i m : ℕ) → i < m → m < length (table_of tables t) → apart (structure_of tables t i) (structure_of tables t m) ≡ true
      free = free_at (table_of tables t) (table_there n tables right t (omega arith)).free

      p : List ℕ
      p = prefix_of (structure_of tables t j)

      q : List ℕ
      q = prefix_of (structure_of tables t k)

      go : Dec (j < k) → (begins p q ≡ false) × (begins q p ≡ false)
      go (yes l) = both_not (begins p q) (begins q p) (free j k l hk)
      go (no l) =
          let less : k < j = ⊎_elim (λ e. absurd (d (sym e))) (λ m. m) (eq-or-lt_of_le (omega arith)) in
          let b = both_not (begins q p) (begins p q) (free k j less hj) in
          (b.1, b.0)

  rank_less : Before (prefix_of (structure_of tables t j)) (prefix_of (structure_of tables t k))
      → rank_of (form_of (structure_of tables t j)) < rank_of (form_of (structure_of tables t k))
  rank_less b =
      let c = structure_of tables t j in
      let d = structure_of tables t k in
      let lc = length_low_first c.prefix c.code in
      let ld = length_low_first d.prefix d.code in
      rw (rank_moved c, rank_moved d)
      (before_moved 32 b (small_low_first c.prefix c.code) (small_low_first d.prefix d.code)
      (omega (arith, (structure_fine n tables right t j hj).most)) (omega (arith, (structure_fine n tables right t k hk).most)))

  before_words : Before (prefix_of (structure_of tables t j)) (prefix_of (structure_of tables t k)) → (v : ℤ)
      → Before (word_of (structure_of tables t j) v) (word_of (structure_of tables t k) v)
  unfolding word_of
  before_words b v = before_tails _ _ b

-- the word of the lower place is the smaller
module _ (n : ℕ) (tables : List (List Structure)) (right : every (table_right n) tables ≡ true) (t j k : ℕ)
    (hj : j < length (table_of tables t)) (hk : k < length (table_of tables t)) (v : ℤ) where
  differ_before : (j ≡ k → ⊥) → rank_of (form_of (structure_of tables t j)) ≤ rank_of (form_of (structure_of tables t k))
      → Before (word_of (structure_of tables t j) v) (word_of (structure_of tables t k) v)
  differ_before d h =
      let a = prefixes_apart n tables right t j k hj hk d in
      ⊎_elim (λ b. before_words n tables right t j k hj hk b v) (λ b. absurd (omega (arith, rank_less n tables right t k j hk hj b)))
      (apart_before (prefix_of (structure_of tables t j)) (prefix_of (structure_of tables t k)) a.0 a.1)

  pub rank_not_after : rank_of (form_of (structure_of tables t j)) ≤ rank_of (form_of (structure_of tables t k)) → NotAfter (rule tables) v t j k
  rank_not_after h = go (ℕ_discrete k j)
    where
      go : Dec (k ≡ j) → NotAfter (rule tables) v t j k
      go (yes e) = inl e
      go (no d) = inr (differ_before (λ e. d (sym e)) h)
