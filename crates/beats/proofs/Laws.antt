-- Zones and the samples that they hold, and the beat added to samples. Assumes nothing.
use Prim.Native.Nat.{ℕ, zero, suc, ◌+◌, ◌-◌, ◌*◌, ◌≤◌, ◌<◌}
use mathlib.Core.Path.{◌≡◌, refl, sym, ap, subst, ◌∙◌}
use mathlib.Core.Bool.{Bool, true, false, cond, and-false, and-eq-true_iff}
use mathlib.Core.List.{List, [], ◌∷◌}
use native.Mathlib.Nat.{add-zero}
use native.Mathlib.Numerals.{add-one}
use native.Mathlib.Omega.{arith}
use borrow.Author.Tests.{leb-true, ltb-true, eqb-true, eqb-false, le-leb, lt-leb, eq-eqb, ne_eqb}
use lib.Dec.{leb, ltb, eqb}
use lib.IntN.{ℤ, pos, ◌+ℤ◌}
use lib.ListN.{length, get_or, drop, drop_of_length-le}
use lib.Seq.{drop-cons}
use Rattle.std.specs.Prelude.{Option, None, Some, MatchOption, unwrap_or}
use Rattle.std.specs.List.{range_with_len, AllWithin, HoldsAt}
use Rattle.std.proofs.lemmas.List.FromFn.{get_or-range_with_len, length-range_with_len}
use Rattle.wire.proofs.Laws.{all_at, unlike}
use Rattle.entries.specs.Section4.{fiducial_of, qrs_count, qrs_type, zone_begin, qrs_fiducial, zone_end, last_before, zone_right, section4_right}
use Rattle.samples.specs.Trace.{Trace, rebuilt, fault, fits16, behind, after_sample}
use Rattle.beats.specs.Sums.{in_zone, beat_place_from, beat_place, beat_value_at, add_beat}
use Rattle.beats.specs.InnerZones.{Reaches, Alike}

-- what Section 4's rule says of its zones
pub record RightBeat (samples : ℕ) (s : List ℕ) : Type 0 where
  pub few : qrs_count s ≤ 1024
  pub right : (k : ℕ) → k < qrs_count s → zone_right samples s k ≡ true

-- a Section 4 that keeps it
pub beat_right_lem : (samples : ℕ) (s : List ℕ) → section4_right samples s ≡ true → RightBeat samples s
unfolding section4_right
beat_right_lem samples s h =
    let p1 = (and-eq-true_iff (leb 1 samples) _).0 h in
    let p2 = (and-eq-true_iff (leb samples 65536) _).0 p1.1 in
    let p3 = (and-eq-true_iff (leb 1 (fiducial_of s)) _).0 p2.1 in
    let p4 = (and-eq-true_iff (leb (fiducial_of s) samples) _).0 p3.1 in
    let p5 = (and-eq-true_iff (leb (qrs_count s) 1024) _).0 p4.1 in
    let p6 = (and-eq-true_iff (leb (22 + 14 * qrs_count s) (length s)) _).0 p5.1 in
    record {
      few = leb-true (qrs_count s) 1024 p5.0;
      right = λ k g. all_at (zone_right samples s) 0 (qrs_count s) p6.1 k (omega arith) g;
    }

-- what the rule of a zone of type 0 says
pub record RightZone (samples : ℕ) (s : List ℕ) (k : ℕ) : Type 0 where
  pub ordered : zone_begin s k ≤ zone_end s k
  pub later : last_before s k < zone_begin s k
  pub least : qrs_fiducial s k + 1 ≤ zone_begin s k + fiducial_of s
  pub most : zone_end s k + fiducial_of s ≤ qrs_fiducial s k + samples

-- a zone of type 0 that keeps it
zone_right_lem : (samples : ℕ) (s : List ℕ) (k : ℕ) → zone_right samples s k ≡ true → qrs_type s k ≡ 0 → RightZone samples s k
unfolding zone_right
zone_right_lem samples s k h z =
    let begin = zone_begin s k in
    let end = zone_end s k in
    let p1 = (and-eq-true_iff (leb 1 begin) _).0 (rw (eq-eqb (qrs_type s k) 0 z) at h) in
    let p2 = (and-eq-true_iff (leb begin end) _).0 p1.1 in
    let p3 = (and-eq-true_iff (ltb (last_before s k) begin) _).0 p2.1 in
    let p4 = (and-eq-true_iff (leb (qrs_fiducial s k + 1) (begin + fiducial_of s)) _).0 p3.1 in
    record {
      ordered = leb-true begin end p2.0;
      later = ltb-true (last_before s k) begin p3.0;
      least = leb-true (qrs_fiducial s k + 1) (begin + fiducial_of s) p4.0;
      most = leb-true (end + fiducial_of s) (qrs_fiducial s k + samples) p4.1;
    }

-- a zone of another type holds no sample
module _ (s : List ℕ) (k n : ℕ) where
  pub miss_type : (qrs_type s k ≡ 0 → ⊥) → in_zone s k n ≡ false
  unfolding in_zone
  miss_type h = simp (ne_eqb (qrs_type s k) 0 h)

  -- nor does one that begins behind it
  pub miss_begin : n < zone_begin s k → in_zone s k n ≡ false
  unfolding in_zone
  miss_begin h = simp (lt-leb (zone_begin s k) n h, and-false)

  -- nor one that ends before it
  pub miss_end : zone_end s k < n → in_zone s k n ≡ false
  unfolding in_zone
  miss_end h = simp (lt-leb n (zone_end s k) h, and-false)

-- zone j holds no sample from n on
abbrev Misses : List ℕ → ℕ → ℕ → Type 0
Misses s n j = (m : ℕ) → n ≤ m → in_zone s j m ≡ false

-- it is passed over
pub alike_more : (s : List ℕ) (zones k j n : ℕ) → j < zones → Misses s n j
    → Alike s zones k j n → Alike s zones k (j + 1) n
unfolding beat_place_from
alike_more s zones k j n h miss alike m g =
    let e : zones - j ≡ suc (zones - (j + 1)) = omega arith in
    alike m g ∙ rw (e, miss m g)

-- nor do several of them, one after the other
alike_over : (s : List ℕ) (zones k n d : ℕ) → k + d ≤ zones → ((i : ℕ) → i < d → Misses s n (k + i)) → Alike s zones k (k + d) n
alike_over s zones k n zero l miss = λ m g. rw add-zero
alike_over s zones k n (suc d) l miss =
    let e : k + d + 1 ≡ k + suc d = omega arith in
    let rest = alike_over s zones k n d (omega arith) (λ i h. miss i (omega arith)) in
    subst (λ j. Alike s zones k j n) e (alike_more s zones k (k + d) n (omega arith) (miss d (omega arith)) rest)

-- the first zone from k on that reaches sample n, or none
pub zone_found : (s : List ℕ) (zones k n : ℕ) (o : Option ℕ) → k ≤ zones
    → MatchOption o (AllWithin (Misses s n) (range_with_len k (zones - k)) 0 (length (range_with_len k (zones - k))))
    (λ j. ((qrs_type s j ≡ 0) × (n ≤ zone_end s j)) × (i : ℕ) × (i < length (range_with_len k (zones - k)))
    × HoldsAt (λ y. y ≡ j) (range_with_len k (zones - k)) i × AllWithin (Misses s n) (range_with_len k (zones - k)) 0 i)
    → (unwrap_or o zones ≤ zones) × Alike s zones k (unwrap_or o zones) n × Reaches s zones (unwrap_or o zones) n
zone_found s zones k n o l found = go o found
  where
    nth : (i : ℕ) → i < zones - k → get_or (range_with_len k (zones - k)) i 0 ≡ k + i
    nth i h = get_or-range_with_len k (zones - k) i 0 h

    go : (o : Option ℕ) → MatchOption o (AllWithin (Misses s n) (range_with_len k (zones - k)) 0 (length (range_with_len k (zones - k))))
        (λ j. ((qrs_type s j ≡ 0) × (n ≤ zone_end s j)) × (i : ℕ) × (i < length (range_with_len k (zones - k)))
        × HoldsAt (λ y. y ≡ j) (range_with_len k (zones - k)) i × AllWithin (Misses s n) (range_with_len k (zones - k)) 0 i)
        → (unwrap_or o zones ≤ zones) × Alike s zones k (unwrap_or o zones) n × Reaches s zones (unwrap_or o zones) n
    go None none =
        let long = length-range_with_len k (zones - k) in
        let e : k + (zones - k) ≡ zones = omega arith in
        let miss : (i : ℕ) → i < zones - k → Misses s n (k + i) = λ i h. subst (Misses s n) (nth i h) (none i 0 (omega arith) (omega arith)) in
        (omega arith, subst (λ j. Alike s zones k j n) e (alike_over s zones k n (zones - k) (omega arith) miss), λ h. absurd (omega arith))
    go (Some j) (hit, i, h, here, before) =
        let long = length-range_with_len k (zones - k) in
        let e : k + i ≡ j = sym (nth i (omega arith)) ∙ here 0 in
        let miss : (d : ℕ) → d < i → Misses s n (k + d) = λ d g. subst (Misses s n) (nth d (omega arith)) (before d 0 (omega arith) g) in
        (omega arith, subst (λ j. Alike s zones k j n) e (alike_over s zones k n i (omega arith) miss), λ g. hit)

-- where no zone is left, no sample of the beat is
pub place_end : (s : List ℕ) (zones k n : ℕ) → zones ≤ k → beat_place_from s (zones - k) k n ≡ 0
unfolding beat_place_from
place_end s zones k n h = let e : zones - k ≡ 0 = omega arith in rw e

-- a sample that zones do not reach past lies in none of the zones after them
place_behind : (samples : ℕ) (s : List ℕ) (n left k : ℕ) → ((j : ℕ) → k ≤ j → j < k + left → zone_right samples s j ≡ true)
    → n ≤ last_before s k → beat_place_from s left k n ≡ 0
unfolding beat_place_from last_before
place_behind samples s n zero k right h = refl
place_behind samples s n (suc left) k right h =
    go (eqb (qrs_type s k) 0) refl (λ g. place_behind samples s n left (k + 1) (λ j a b. right j (omega arith) (omega arith)) g)
  where
    go : (t : Bool) → eqb (qrs_type s k) 0 ≡ t → (n ≤ last_before s (k + 1) → beat_place_from s left (k + 1) n ≡ 0)
        → beat_place_from s (suc left) k n ≡ 0
    go false e later = rw (miss_type s k n (eqb-false (qrs_type s k) 0 e)) (later (rw (add-one k, e) h))
    go true e later =
        let r = zone_right_lem samples s k (right k (omega arith) (omega arith)) (eqb-true (qrs_type s k) 0 e) in
        rw (miss_begin s k n (omega arith)) (later (rw (add-one k, e) (omega arith)))

-- zone k of a Section 4 that keeps its rule is of type 0
module _ (samples : ℕ) (s : List ℕ) (zones k n : ℕ) (kept : section4_right samples s ≡ true) (e : zones ≡ qrs_count s) (h : k < zones)
    (z : qrs_type s k ≡ 0) where
  -- it keeps its own
  pub zone_here : RightZone samples s k
  zone_here = zone_right_lem samples s k ((beat_right_lem samples s kept).right k (omega arith)) z

  -- sample n lies before it, so in none from there on
  pub place_before : n < zone_begin s k → beat_place_from s (zones - k) k n ≡ 0
  unfolding beat_place_from last_before
  place_before g =
      let l : zones - k ≡ suc (zones - (k + 1)) = omega arith in
      let r = zone_here in
      let last : n ≤ last_before s (k + 1) = rw (add-one k, eq-eqb (qrs_type s k) 0 z) (omega arith) in
      let right = (beat_right_lem samples s kept).right in
      rw (l, miss_begin s k n g) (place_behind samples s n (zones - (k + 1)) (k + 1) (λ j a b. right j (omega arith)) last)

  -- or it lies in it
  pub place_in : zone_begin s k ≤ n → n ≤ zone_end s k → beat_place_from s (zones - k) k n ≡ n + fiducial_of s - qrs_fiducial s k
  unfolding beat_place_from in_zone
  place_in g l =
      let m : zones - k ≡ suc (zones - (k + 1)) = omega arith in
      rw (m, eq-eqb (qrs_type s k) 0 z, le-leb (zone_begin s k) n g, le-leb n (zone_end s k) l)

-- the beat has the sample that a sample of zone k gets
pub beat_there : (samples : ℕ) (s : List ℕ) (zones k n : ℕ) → section4_right samples s ≡ true → zones ≡ qrs_count s → k < zones
    → (qrs_type s k ≡ 0) × (n ≤ zone_end s k) → zone_begin s k ≤ n
    → (qrs_fiducial s k + 1 ≤ n + fiducial_of s) × (n + fiducial_of s ≤ qrs_fiducial s k + samples)
beat_there samples s zones k n kept e h z b =
    let r = zone_here samples s zones k n kept e h z.0 in
    (omega (arith, r.least), omega (arith, r.most, z.1))

pub beat_inside : (samples : ℕ) (s : List ℕ) (zones k n : ℕ) → section4_right samples s ≡ true → zones ≡ qrs_count s → k < zones
    → (qrs_type s k ≡ 0) × (n ≤ zone_end s k) → zone_begin s k ≤ n → n + fiducial_of s - qrs_fiducial s k - 1 < samples
beat_inside samples s zones k n kept e h z b = omega (arith, beat_there samples s zones k n kept e h z b)

-- the beat's sample of a number
pub beat_at : (beat : List ℤ) (place : ℕ) → 1 ≤ place → beat_value_at beat place ≡ get_or beat (place - 1) (pos 0)
unfolding beat_value_at
beat_at beat place h = let e : place ≡ suc (place - 1) = omega arith in ap (beat_value_at beat) e

-- what sample n gets, from zone k on: nothing where there is no zone
pub gets_none : (s : List ℕ) (beat : List ℤ) (zones k n : ℕ) → k ≡ zones → beat_value_at beat (beat_place_from s (zones - k) k n) ≡ pos 0
unfolding beat_value_at
gets_none s beat zones k n h = rw (place_end s zones k n (omega arith))

-- or before the zone
pub gets_before : (s : List ℕ) (beat : List ℤ) (zones k n : ℕ) → section4_right (length beat) s ≡ true → zones ≡ qrs_count s → k < zones
    → (qrs_type s k ≡ 0) × (n ≤ zone_end s k) → n < zone_begin s k → beat_value_at beat (beat_place_from s (zones - k) k n) ≡ pos 0
unfolding beat_value_at
gets_before s beat zones k n kept e h z b = rw (place_before (length beat) s zones k n kept e h z.0 b)

-- and in it a sample of the beat
pub gets_beat : (s : List ℕ) (beat : List ℤ) (zones k n : ℕ) → section4_right (length beat) s ≡ true → zones ≡ qrs_count s → k < zones
    → (qrs_type s k ≡ 0) × (n ≤ zone_end s k) → zone_begin s k ≤ n
    → beat_value_at beat (beat_place_from s (zones - k) k n) ≡ get_or beat (n + fiducial_of s - qrs_fiducial s k - 1) (pos 0)
gets_beat s beat zones k n kept e h z b =
    let there = beat_there (length beat) s zones k n kept e h z b in
    let place = n + fiducial_of s - qrs_fiducial s k in
    rw (place_in (length beat) s zones k n kept e h z.0 b z.1) (beat_at beat place (omega (arith, there.0)))

-- the samples from the i-th on, where its sum with the beat's is z
module _ (s : List ℕ) (beat : List ℤ) (n : ℕ) (xs : List ℤ) (i : ℕ) (h : i < length xs) (z : ℤ)
    (sum : get_or xs i (pos 0) +ℤ beat_value_at beat (beat_place s n) ≡ z) where
  -- z fits 16 bits
  pub add_more : fits16 z ≡ true → add_beat s beat n (drop i xs) ≡ behind z (add_beat s beat (n + 1) (drop (i + 1) xs))
  unfolding add_beat after_sample
  add_more f = rw (drop-cons xs i (pos 0) h, add-one i) (rw (sum, f))

  -- or it does not
  pub add_fault : fits16 z ≡ false → add_beat s beat n (drop i xs) ≡ fault 13
  unfolding add_beat after_sample
  add_fault f = rw (drop-cons xs i (pos 0) h) (rw (sum, f))

-- no sample is left
pub add_end : (s : List ℕ) (beat : List ℤ) (n : ℕ) (xs : List ℤ) (i : ℕ) → length xs ≤ i → add_beat s beat n (drop i xs) ≡ rebuilt []
unfolding add_beat
add_end s beat n xs i h = rw (drop_of_length-le xs h)

-- adding the beat keeps how many samples there are
pub added_length : (s : List ℕ) (beat : List ℤ) (n : ℕ) (xs ys : List ℤ) → add_beat s beat n xs ≡ rebuilt ys → length ys ≡ length xs
unfolding add_beat after_sample
added_length s beat n [] ys e = let q : ys ≡ [] = cc in ap length q
added_length s beat n (x ∷ xs) ys e =
    let z = x +ℤ beat_value_at beat (beat_place s n) in
    go z (fits16 z) (add_beat s beat (n + 1) xs) (added_length s beat (n + 1) xs) e
  where
    go : (z : ℤ) (f : Bool) (t : Trace) → ((zs : List ℤ) → t ≡ rebuilt zs → length zs ≡ length xs)
        → cond f (behind z t) (fault 13) ≡ rebuilt ys → length ys ≡ length (x ∷ xs)
    go z true (rebuilt zs) rest q = let p : ys ≡ z ∷ zs = cc in ap length p ∙ ap suc (rest zs refl)
    go z true (fault number) rest q = unlike cc
    go z false t rest q = unlike cc
