-- The layers joined, from the last value to the first; and where there is one table, without switches. Assumes nothing.
use Prim.Native.Nat.{ℕ, zero, suc, ◌+◌, ◌-◌, ◌*◌, ◌≤◌, ◌<◌}
use mathlib.Core.Path.{◌≡◌, refl, sym, ap, ◌∙◌}
use mathlib.Core.List.{List, [], ◌∷◌, ◌++◌}
use mathlib.Core.Logic.{⊎_elim}
use native.Mathlib.Nat.{eq-or-lt_of_le, mul-le-mul_right, suc-mul}
use native.Mathlib.Numerals.{add-one}
use native.Mathlib.Omega.{arith}
use borrow.Rule.Slice.PartMut.{put_mid, post_of, drop_put}
use lib.IntN.{ℤ, pos}
use lib.ListN.{length, get_or, set, take, drop, replicate, get_or-replicate, get_or-append}
use lib.Seq.{get_or-set_same, get_or-set_other, get_or-append-add, get_or-drop, length-take-le, drop-cons, drop-length}
use Rattle.bits.specs.InnerRaised.{from_zero}
use Rattle.tables.specs.declared.Structure.{Structure}
use Rattle.compiled.specs.InnerForm.{Compiled}
use Rattle.paths.specs.InnerPaths.{join, Exact}
use Rattle.paths.proofs.Optimal.{exact_nil}
use Rattle.shortest.specs.InnerRule.{rule}
use Rattle.search.specs.InnerSearch.{cap, Shows, Trail, bits_of, NoSwitch, at, IsNearest, Valued, ValuedTo, Layer, NineCosts}
use Rattle.search.proofs.Served.{valued}
use Rattle.search.proofs.OneLayer.{layer_holds, settled_first, picked_first}

-- ---- the layers joined

-- behind the last value
pub zeros_exact : (tables : List (List Structure)) (vs : List ℤ) → length tables ≤ 8
    → Exact (rule tables) cap (drop (length vs) vs) (at (replicate 9 0))
zeros_exact tables vs h =
    rw (drop-length vs)
    (exact_nil (rule tables) cap (at (replicate 9 0)) (λ t ht. get_or-replicate {A = ℕ} 9 t 0 0 (omega arith)))

-- the bytes of value i lie inside the work space
pub part_room : (i n l w : ℕ) → 0 < i → i ≤ l → l * n ≤ w → (i - 1) * n + n ≤ w
part_room i n l w h m r =
    let e : i ≡ suc (i - 1) = omega arith in
    let f : i * n ≤ l * n = mul-le-mul_right n m in
    let g : i * n ≡ (i - 1) * n + n = ap (λ (k : ℕ). k * n) e ∙ suc-mul (i - 1) n in
    omega arith

-- a part put back into a list
module _ (xs ys : List ℕ) (a n : ℕ) (l : length ys ≡ n) (r : a + n ≤ length xs) where
  pub put_in_lem : (t : ℕ) → t < n → get_or (put_mid a (a + n - a) xs ys) (a + t) 0 ≡ get_or ys t 0
  put_in_lem t h =
      let e : length (take a xs) ≡ a = length-take-le a xs (omega arith) in
      ap (λ (m : ℕ). get_or (put_mid a (a + n - a) xs ys) (m + t) 0) (sym e)
      ∙ get_or-append-add (take a xs) (ys ++ post_of a (a + n - a) xs) t 0
      ∙ get_or-append ys (post_of a (a + n - a) xs) 0 t (omega arith)

  pub put_out : (j : ℕ) → a + n ≤ j → get_or (put_mid a (a + n - a) xs ys) j 0 ≡ get_or xs j 0
  put_out j h =
      let d : drop (a + n) (put_mid a (a + n - a) xs ys) ≡ drop (a + n) xs = drop_put a (a + n) xs ys (omega arith) r (omega arith) in
      let e : a + n + (j - (a + n)) ≡ j = omega arith in
      ap (λ (m : ℕ). get_or (put_mid a (a + n - a) xs ys) m 0) (sym e)
      ∙ sym (get_or-drop (a + n) (put_mid a (a + n - a) xs ys) (j - (a + n)) 0)
      ∙ ap (λ (z : List ℕ). get_or z (j - (a + n)) 0) d
      ∙ get_or-drop (a + n) xs (j - (a + n)) 0
      ∙ ap (λ (m : ℕ). get_or xs m 0) e

-- one value more, the one at p, whose first steps ys are in the work space now
module _ (tables : List (List Structure)) (vs : List ℤ) (work after ys costs : List ℕ) (n p i : ℕ) (v : ℤ) (all : length tables ≡ n)
    (e : i ≡ p + 1) (hp : p < length vs) (is : v ≡ get_or vs p (pos 0)) (L : Layer tables v (drop i vs) costs ys)
    (new : (t : ℕ) → t < n → get_or after (p * n + t) 0 ≡ get_or ys t 0) (old : (j : ℕ) → p * n + n ≤ j → get_or after j 0 ≡ get_or work j 0)
    (way : Trail tables vs work i) where
  own : Layer tables (get_or vs p (pos 0)) (drop (p + 1) vs) costs ys
  own = rw (is, e) at L

  pub step_exact : Exact (rule tables) cap (drop p vs) (at costs)
  step_exact = rw (drop-cons vs p (pos 0) hp, ← add-one p) own.exact

  pub step_trail : Trail tables vs after p
  step_trail j t hj lj ht = ⊎_elim same later (eq-or-lt_of_le hj)
    where
      inside : t - 1 < n
      inside = omega arith

      same : p ≡ j → Shows (rule tables) (get_or vs j (pos 0)) (drop (j + 1) vs) t (get_or after (j * length tables + (t - 1)) 0)
      same q = rw (← q) (rw (place, new (t - 1) inside) (own.shows t ht))
        where
          place : p * length tables + (t - 1) ≡ p * n + (t - 1)
          place = rw all

      later : p < j → Shows (rule tables) (get_or vs j (pos 0)) (drop (j + 1) vs) t (get_or after (j * length tables + (t - 1)) 0)
      later q =
          rw (old (j * length tables + (t - 1)) (rw all (omega (arith, suc-mul p n, mul-le-mul_right n q)))) (way j t (omega arith) lj ht)

-- ---- one table, without switches

-- its cost, among those of all tables
abbrev pub alone : ℕ → List ℕ
alone c = 0 ∷ c ∷ replicate 7 0

alone_nine : (c : ℕ) → c ≤ suc cap → NineCosts (alone c)
alone_nine c h = (refl, most)
  where
    most : (t : ℕ) → t < 9 → at (alone c) t ≤ suc cap
    most zero l = omega arith
    most (suc zero) l = h
    most (suc (suc t)) l = omega (arith, get_or-replicate {A = ℕ} 7 t 0 0 (omega arith))

-- the value's structure is the first step
module _ {tables : List (List Structure)} {tab : List ℕ} (ready : Compiled tables tab) (all : length tables ≡ 1) (none : NoSwitch tab 1)
    (x k a c : ℕ) (vs : List ℤ) (E : Exact (rule tables) cap vs (at (alone a))) (near : IsNearest tab 1 x k)
    (no : k ≡ 64 → c ≡ suc cap) (some : k < 64 → c ≡ join cap (bits_of tab 1 k) a) (most : c ≤ suc cap) where
  its_value : Valued tables (alone a) x 1 k c
  its_value = valued ready (alone a) x 1 k c (omega arith) (near.0 tables ready) no some

  valued_one : ValuedTo tables (alone a) x (k ∷ []) (alone c) 2
  valued_one t g h = let e : t ≡ 1 = omega arith in rw e its_value

  pub one_layer : Layer tables (from_zero 131072 x) vs (alone c) (k ∷ [])
  one_layer =
      layer_holds ready 1 x vs (alone a) (k ∷ []) (alone c) (alone c) (k ∷ []) all E valued_one
      (settled_first tab 1 (alone c) (omega arith) (alone_nine c most) none)
      (λ t g h. picked_first tab 1 (alone c) (omega arith) (alone_nine c most) none t (get_or (k ∷ []) (t - 1) 0) g h
      (let e : t ≡ 1 = omega arith in rw e near.1))

-- the byte of a value in the work space
module _ (work : List ℕ) (p k : ℕ) (h : p < length work) where
  pub set_in : (t : ℕ) → t < 1 → get_or (set work p k) (p * 1 + t) 0 ≡ get_or (k ∷ []) t 0
  set_in zero l = let e : p * 1 + 0 ≡ p = omega arith in rw e (get_or-set_same work p k 0 h)
  set_in (suc t) l = absurd (omega arith)

  pub set_out : (j : ℕ) → p * 1 + 1 ≤ j → get_or (set work p k) j 0 ≡ get_or work j 0
  set_out j l = get_or-set_other work p j k 0 (λ e. absurd (omega arith))
