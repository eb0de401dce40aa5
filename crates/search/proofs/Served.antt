-- The value's structure: found by looking at one structure after another, known from then on, and what it costs. Assumes nothing.
use Prim.Native.Nat.{ℕ, suc, ◌+◌, ◌-◌, ◌*◌, ◌≤◌, ◌<◌}
use mathlib.Core.Path.{◌≡◌, sym, ap, ◌∙◌}
use mathlib.Core.List.{List}
use mathlib.Core.Logic.{inl, inr, ⊎_elim}
use native.Mathlib.Decide.{ℕ_discrete, dec_lt}
use native.Mathlib.Omega.{arith}
use lib.IntN.{ℤ}
use lib.ListN.{length, get_or, set, replicate, length-set, length-replicate, get_or-replicate}
use lib.Seq.{get_or-set_same, get_or-set_other}
use Rattle.bits.specs.InnerRaised.{from_zero}
use Rattle.tables.specs.declared.Structure.{Structure}
use Rattle.compiled.specs.InnerForm.{Compiled}
use Rattle.paths.specs.InnerPaths.{gives, join, Nearest}
use Rattle.paths.proofs.Layer.{none_more, nearest_first, nearest_more, nearest_keep, nearest_take}
use Rattle.shortest.specs.InnerRule.{kind_of, word_of, structure_of, rule}
use Rattle.search.specs.InnerSearch.{cap, count_of, bits_of, at, Served, IsNearest, Known, Valued, ValuedTo, Smaller}
use Rattle.search.proofs.Laws.{counted, count_most, bits_there, not_after}

module _ {tables : List (List Structure)} {tab : List ℕ} (ready : Compiled tables tab) (t : ℕ) (h : (1 ≤ t) × (t ≤ 8)) (k best x : ℕ)
    (hk : k < count_of tab t) (e : kind_of (structure_of tables t k) (from_zero 131072 x) ≡ gives) (S : Served tables x t k best) where
  -- the first
  pub served_first : best ≡ 64 → Served tables x t (k + 1) k
  served_first n =
      inr (⊎_elim (λ w. nearest_first (rule tables) (from_zero 131072 x) t k w.1 e)
      (λ N. absurd (omega (arith, N.inside, count_most ready t h)))
      S)

  module _ (n : best ≡ 64 → ⊥) (hb : best < count_of tab t) where
    near : Nearest (rule tables) (from_zero 131072 x) t k best
    near = ⊎_elim (λ w. absurd (n w.0)) (λ N. N) S

    -- a shorter code
    pub served_shorter : bits_of tab t k < bits_of tab t best → Served tables x t (k + 1) k
    served_shorter l =
        let wk = bits_there ready t h k hk x in
        let wb = bits_there ready t h best hb x in
        inr (nearest_take (rule tables) (from_zero 131072 x) t k best near e (omega arith) (λ q. absurd (omega arith)))

    -- a longer one
    pub served_longer : bits_of tab t best < bits_of tab t k → Served tables x t (k + 1) best
    served_longer l =
        let wk = bits_there ready t h k hk x in
        let wb = bits_there ready t h best hb x in
        inr (nearest_keep (rule tables) (from_zero 131072 x) t k best near (omega arith) (λ q. absurd (omega arith)))

    -- one as long
    pub served_equal : (r : ℕ) → bits_of tab t k ≡ bits_of tab t best → Smaller tab t k best r → Served tables x t (k + 1) r
    served_equal r l s = ⊎_elim take keep s.one
      where
        v : ℤ
        v = from_zero 131072 x

        same : length (word_of (structure_of tables t k) v) ≡ length (word_of (structure_of tables t best) v)
        same = bits_there ready t h k hk x ∙ l ∙ sym (bits_there ready t h best hb x)

        take : r ≡ k → Served tables x t (k + 1) r
        take q =
            let a = not_after ready t h k best hk hb v (rw q at (s.other (omega (arith, count_most ready t h)))) in
            rw q (inr (nearest_take (rule tables) v t k best near e (omega (arith, same))
            (λ z. ⊎_elim (λ b. absurd (omega (arith, near.inside))) (λ b. b) a)))

        keep : r ≡ best → Served tables x t (k + 1) r
        keep q =
            rw q (inr (nearest_keep (rule tables) v t k best near (omega (arith, same))
            (λ z. not_after ready t h best k hb hk v (rw q at s.first))))

-- a structure that does not give the value
pub served_skip : (tables : List (List Structure)) (x t k best : ℕ) → (kind_of (structure_of tables t k) (from_zero 131072 x) ≡ gives → ⊥)
    → Served tables x t k best → Served tables x t (k + 1) best
served_skip tables x t k best n s =
    ⊎_elim
    (λ w. inl (w.0, none_more (rule tables) (from_zero 131072 x) t k w.1 n))
    (λ N. inr (nearest_more (rule tables) (from_zero 131072 x) t k best N n))
    s

-- nothing is known
pub known_none : (tab : List ℕ) → Known tab (replicate 2048 255)
known_none tab = record {
  room = length-replicate {A = ℕ} 2048 255;
  found = λ t x a b c d h. absurd (omega (arith, get_or-replicate {A = ℕ} 2048 ((t - 1) * 256 + (x - 130944)) 255 0 (omega arith)));
}

-- one value more
pub known_more : {tab known : List ℕ} → Known tab known → (t x k : ℕ) → (1 ≤ t) × (t ≤ 8) → 130944 ≤ x → x < 131200 → IsNearest tab t x k
    → Known tab (set known ((t - 1) * 256 + (x - 130944)) k)
known_more {tab} {known} K t x k h low high new = record {
  room = simp length-set K.room;
  found = λ u y a b c d small. go u y a b c d small (ℕ_discrete ((u - 1) * 256 + (y - 130944)) ((t - 1) * 256 + (x - 130944)));
}
  where
    go : (u y : ℕ) → 1 ≤ u → u ≤ 8 → 130944 ≤ y → y < 131200
        → get_or (set known ((t - 1) * 256 + (x - 130944)) k) ((u - 1) * 256 + (y - 130944)) 0 ≤ 64
        → Dec ((u - 1) * 256 + (y - 130944) ≡ (t - 1) * 256 + (x - 130944))
        → IsNearest tab u y (get_or (set known ((t - 1) * 256 + (x - 130944)) k) ((u - 1) * 256 + (y - 130944)) 0)
    go u y a b c d small (yes e) =
        let i : u ≡ t = omega arith in
        let j : y ≡ x = omega arith in
        rw (i, j) (rw (get_or-set_same known ((t - 1) * 256 + (x - 130944)) k 0 (omega (arith, K.room))) new)
    go u y a b c d small (no n) =
        let same = get_or-set_other known ((t - 1) * 256 + (x - 130944)) ((u - 1) * 256 + (y - 130944)) k 0 n in
        rw same (K.found u y a b c d (rw same at small))

-- what the value's structure costs
pub valued : {tables : List (List Structure)} {tab : List ℕ} (ready : Compiled tables tab) (next : List ℕ) (x t k c : ℕ) → (1 ≤ t) × (t ≤ 8)
    → Served tables x t (count_of tab t) k → (k ≡ 64 → c ≡ suc cap) → (k < 64 → c ≡ join cap (bits_of tab t k) (at next t))
    → Valued tables next x t k c
valued {tables} {tab} ready next x t k c h s none some =
    let m = counted ready t h in
    ⊎_elim
    (λ w. inl (w.0, rw m at w.1, none w.0))
    (λ N. inr (
      rw m at N,
      some (omega (arith, N.inside, count_most ready t h))
          ∙ ap (λ (b : ℕ). join cap b (at next t)) (sym (bits_there ready t h k N.inside x)),
    ))
    s

-- one table more
pub valued_more : (tables : List (List Structure)) (next marks costs : List ℕ) (x t k c : ℕ) → 1 ≤ t → t - 1 < length marks
    → t < length costs → ValuedTo tables next x marks costs t → Valued tables next x t k c
    → ValuedTo tables next x (set marks (t - 1) k) (set costs t c) (t + 1)
valued_more tables next marks costs x t k c h hm hc old new u hu l = go (dec_lt u t)
  where
    go : Dec (u < t) → Valued tables next x u (get_or (set marks (t - 1) k) (u - 1) 0) (at (set costs t c) u)
    go (no n) =
        let e : u ≡ t = omega arith in
        rw e (rw (get_or-set_same marks (t - 1) k 0 hm, get_or-set_same costs t c 0 hc) new)
    go (yes m) =
        rw (
          get_or-set_other marks (t - 1) (u - 1) k 0 (λ e. absurd (omega arith)),
          get_or-set_other costs t u c 0 (λ e. absurd (omega arith)),
        )
        (old u hu m)

-- a table's cost replaced, none above a bound
pub set_most : (costs : List ℕ) (t r most : ℕ) → t < length costs → r ≤ most → ((u : ℕ) → u < 9 → at costs u ≤ most)
    → (u : ℕ) → u < 9 → at (set costs t r) u ≤ most
set_most costs t r most ht l h u hu = go (ℕ_discrete u t)
  where
    go : Dec (u ≡ t) → at (set costs t r) u ≤ most
    go (yes e) = rw e (rw (get_or-set_same costs t r 0 ht) l)
    go (no n) = rw (get_or-set_other costs t u r 0 n) (h u hu)
