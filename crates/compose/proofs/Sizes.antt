-- The results of the search for the leads, one by one from the last back, and what they say of all. Assumes nothing.
use Prim.Native.Nat.{ℕ, zero, suc, ◌+◌, ◌-◌, ◌<◌, ◌≤◌, min, max}
use mathlib.Core.Path.{◌≡◌, refl, sym, ap, ◌∙◌}
use mathlib.Core.Bool.{Bool, true, false, cond}
use mathlib.Core.List.{List, [], ◌∷◌}
use mathlib.Core.Option.{Option, none, some}
use native.Mathlib.Omega.{arith}
use borrow.Author.Tests.{le-leb, lt-leb, leb-true, leb-false, lt-ltb, ltb-true, ltb-false}
use lib.Dec.{leb, ltb, eqb}
use Rattle.wire.specs.RuleWords.{unless}
use lib.IntN.{ℤ}
use lib.ListN.{length, get_or, take, drop, set, length-set, length-drop}
use lib.Seq.{drop-cons, drop-drop, drop-length, drop-set-lt, get_or-set_same, length-take-le}
use Rattle.packing.specs.Packing.{bytes_for}
use Rattle.tables.specs.declared.Structure.{Structure}
use Rattle.samples.specs.Differences.{differences}
use Rattle.encode.specs.Encoding.{tables_given}
use Rattle.encode.specs.InnerEncode.{bits_found, Sized}
use Rattle.compose.specs.Writing.{total, longest, cut, done, lead}
use Rattle.compose.specs.InnerSizes.{number_with, number_at, number_for, SizedAs}
use Rattle.compose.proofs.Laws.{back_cons}

-- ---- one lead's number

at_more : (most : ℕ) → 524281 < most → number_at most ≡ 15
at_more most h = rw (lt-leb most 524281 h)

at_cap : (most : ℕ) → most ≡ 524281 → number_at most ≡ 16
at_cap most h = rw h

at_less : (most : ℕ) → most < 524281 → number_at most ≡ 0
at_less most h = rw (le-leb most 524281 (omega arith), lt-ltb most 524281 h)

-- with one lead more, the most bits that are found decide
number_more : (most : ℕ) (found : Option (List ℕ)) → number_with found (number_at most) ≡ number_at (max most (bits_found found))
number_more most none = sym (at_more (max most 524282) (omega arith))
number_more most (some bs) = go (leb most 524281) refl (ltb most 524281) refl (leb (bytes_for (length bs)) 65535) refl
  where
    go : (a : Bool) → leb most 524281 ≡ a → (b : Bool) → ltb most 524281 ≡ b → (s : Bool) → leb (bytes_for (length bs)) 65535 ≡ s
        → cond s (unless a 15 (unless b 16 0)) (cond (eqb (unless a 15 (unless b 16 0)) 15) 15 16)
        ≡ number_at (max most (min 524281 (length bs)))
    go false e b f true g = sym (at_more (max most (min 524281 (length bs))) (omega (arith, leb-false most 524281 e)))
    go false e b f false g = sym (at_more (max most (min 524281 (length bs))) (omega (arith, leb-false most 524281 e)))
    go true e false f true g =
        sym (at_cap (max most (min 524281 (length bs))) (omega (arith, leb-true most 524281 e, ltb-false most 524281 f, leb-true (bytes_for (length bs)) 65535 g)))
    go true e false f false g = sym (at_cap (max most (min 524281 (length bs))) (omega (arith, leb-true most 524281 e, ltb-false most 524281 f)))
    go true e true f true g = sym (at_less (max most (min 524281 (length bs))) (omega (arith, ltb-true most 524281 f, leb-true (bytes_for (length bs)) 65535 g)))
    go true e true f false g =
        sym (at_cap (max most (min 524281 (length bs))) (omega (arith, ltb-true most 524281 f, leb-false (bytes_for (length bs)) 65535 g)))

-- ---- the leads from the last back

total_drop : (counts : List ℕ) (k : ℕ) → total (drop k counts) ≤ total counts
unfolding total
total_drop counts zero = omega arith
total_drop [] (suc k) = omega arith
total_drop (c ∷ counts) (suc k) = let h = total_drop counts k in omega arith

-- a lead is no longer than the longest
pub in_longest : (counts : List ℕ) (k : ℕ) → get_or counts k 0 ≤ longest counts
unfolding longest
in_longest [] k = omega arith
in_longest (c ∷ counts) k = go k (in_longest counts) (leb (longest counts) c) refl
  where
    go : (i : ℕ) → ((m : ℕ) → get_or counts m 0 ≤ longest counts) → (b : Bool) → leb (longest counts) c ≡ b
        → get_or (c ∷ counts) i 0 ≤ cond b c (longest counts)
    go zero later true e = omega arith
    go zero later false e = omega (arith, leb-false (longest counts) c e)
    go (suc i) later true e = omega (arith, later i, leb-true (longest counts) c e)
    go (suc i) later false e = later i

module _ (counts : List ℕ) (k : ℕ) (h : 0 < k) (g : k ≤ length counts) where
  -- a size is put before the others
  sizes_back : (sizes : List ℕ) → length counts ≤ length sizes → (v : ℕ)
      → take (length counts - (k - 1)) (drop (k - 1) (set sizes (k - 1) v)) ≡ v ∷ take (length counts - k) (drop k sizes)
  sizes_back sizes room v =
      let e : length counts - (k - 1) ≡ suc (length counts - k) = omega arith in
      let f : suc (k - 1) ≡ k = omega arith in
      let s = set sizes (k - 1) v in
      rw (
        e,
        drop-cons s (k - 1) 0 (simp length-set (omega arith)),
        get_or-set_same sizes (k - 1) v 0 (omega arith),
        drop-set-lt
            (suc (k - 1)) sizes (k - 1) v (omega arith),
        f,
      )

  pub total_back : total (drop (k - 1) counts) ≡ get_or counts (k - 1) 0 + total (drop k counts)
  unfolding total
  total_back = rw (back_cons counts k h g)

  module _ (at all : ℕ) (here : at + total (drop k counts) ≡ all) (sum : total counts ≡ all) where
    -- the samples of the lead before come before this place
    pub room_back : get_or counts (k - 1) 0 ≤ at
    room_back = omega (arith, total_back, total_drop counts (k - 1))

    pub place_back : at - get_or counts (k - 1) 0 + total (drop (k - 1) counts) ≡ all
    place_back = omega (arith, total_back, room_back)

    pub cut_back : (xs : List ℤ) → let c = get_or counts (k - 1) 0 in
        cut (drop (k - 1) counts) (drop (at - c) xs) ≡ take c (drop (at - c) xs) ∷ cut (drop k counts) (drop at xs)
    unfolding cut
    cut_back xs =
        let c = get_or counts (k - 1) 0 in
        let e : at - c + c ≡ at = omega (arith, room_back) in
        rw (back_cons counts k h g, drop-drop c (at - c) xs, e)

    -- the part of the samples that is lent is the lead
    pub lent : (xs : List ℤ) → let c = get_or counts (k - 1) 0 in take (at - (at - c)) (drop (at - c) xs) ≡ take c (drop (at - c) xs)
    lent xs =
        let c = get_or counts (k - 1) 0 in
        let e : at - (at - c) ≡ c = omega (arith, room_back) in
        ap (λ (n : ℕ). take n (drop (at - c) xs)) e

    pub length_lent : (xs : List ℤ) → length xs ≡ all → let c = get_or counts (k - 1) 0 in length (take (at - (at - c)) (drop (at - c) xs))
        ≡ c
    length_lent xs long =
        let c = get_or counts (k - 1) 0 in
        ap length (lent xs) ∙ length-take-le c (drop (at - c) xs) (rw (length-drop (at - c) xs) (omega (arith, room_back, total_back)))

    -- one lead more is sized
    pub sized_more : (s2 : List ℕ) (order : ℕ) (xs : List ℤ) (most bits : ℕ) (sizes : List ℕ) → length counts ≤ length sizes
        → SizedAs s2 order (cut (drop k counts) (drop at xs)) (number_at most) (take (length counts - k) (drop k sizes))
        → let c = get_or counts (k - 1) 0 in Sized (tables_given s2) (differences order (take (at - (at - c)) (drop (at - c) xs))) bits
        → SizedAs s2 order (cut (drop (k - 1) counts) (drop (at - c) xs)) (number_at (max most bits))
        (take (length counts - (k - 1)) (drop (k - 1) (set sizes (k - 1) (bytes_for bits))))
    unfolding number_for
    sized_more s2 order xs most bits sizes room S F = rw (cut_back xs, sizes_back sizes room (bytes_for bits)) record {
      founds = F.0 ∷ S.founds;
      all = lead (rw (lent xs) at F.1) S.all;
      says = rw F.2 (sym (number_more most F.0)) ∙ ap (number_with F.0) S.says;
      each = rw (← F.2, S.each);
    }

pub sized_none : (s2 : List ℕ) (order : ℕ) (counts : List ℕ) (xs : List ℤ) (sizes : List ℕ)
    → SizedAs s2 order (cut (drop (length counts) counts) (drop (length xs) xs)) 0
    (take (length counts - length counts) (drop (length counts) sizes))
unfolding cut number_for
sized_none s2 order counts xs sizes =
    let e : length counts - length counts ≡ 0 = omega arith in
    rw (e, drop-length counts) record { founds = []; all = done; says = refl; each = refl }

-- at most this many bits are found
pub sized_most : {tables : List (List Structure)} {vs : List ℤ} {bits : ℕ} → Sized tables vs bits → bits ≤ 524282
sized_most (none, f, e) = omega arith
sized_most (some bs, f, e) = omega arith

-- the place behind the last lead's samples
pub places_start : (counts : List ℕ) (all : ℕ) → all + total (drop (length counts) counts) ≡ all
unfolding total
places_start counts all = rw (drop-length counts) (omega arith)
