-- How far adding the beat has come, and its next turn. Assumes nothing.
use Prim.Native.Nat.{ℕ, ◌+◌, ◌-◌, ◌≤◌, ◌<◌}
use mathlib.Core.Path.{◌≡◌, refl, sym, ap, ap₂, ◌∙◌}
use mathlib.Core.Bool.{true, false}
use mathlib.Core.List.{List, [], ◌∷◌, ◌++◌, append-nil}
use native.Mathlib.Nat.{add-zero}
use native.Mathlib.Numerals.{add-one}
use native.Mathlib.Omega.{arith}
use native.Mathlib.Decide.{dec_lt}
use borrow.Author.Tests.{lt-ltb, le-ltb}
use lib.IntN.{ℤ, pos, negsuc, ◌+ℤ◌}
use lib.ListN.{length, get_or, take, drop, set, length-set}
use lib.Seq.{take_all, take-suc-set, get_or-set_other}
use mir.Syntax.{w16}
use Rattle.std.specs.Prelude.{FitsSigned, Option, None, Some, Ok, Err, SomeIff}
use Rattle.std.specs.Option.{ok_or}
use Rattle.refusals.specs.declared.Refusal.{Refusal}
use Rattle.wire.proofs.Laws.{unlike}
use Rattle.entries.specs.Section4.{qrs_count}
use Rattle.samples.specs.Trace.{rebuilt, fault, fits16}
use Rattle.samples.specs.InnerTrace.{before}
use Rattle.samples.proofs.Laws.{before_none, before_more}
use Rattle.beats.specs.Sums.{beat_place_from, beat_place, beat_value_at, add_beat}
use Rattle.beats.specs.InnerZones.{Alike}
use Rattle.beats.proofs.Laws.{add_more, add_fault, add_end}

-- the first i of the samples xs have the beat in `room`, and those after them ask from zone k on
pub record Reached (s : List ℕ) (beat : List ℤ) (first : ℕ) (xs : List ℤ) (zones : ℕ) (room : List ℤ) (k i : ℕ) : Type 0 where
  pub within : i ≤ length xs
  pub long : length room ≡ length xs
  pub zone : k ≤ zones
  pub places : (m : ℕ) → first + i ≤ m → beat_place s m ≡ beat_place_from s (zones - k) k m
  pub rest : (j : ℕ) → i ≤ j → get_or room j (pos 0) ≡ get_or xs j (pos 0)
  pub whole : add_beat s beat first xs ≡ before (take i room) (add_beat s beat (first + i) (drop i xs))

-- at the start
pub reached_none : (s : List ℕ) (beat : List ℤ) (first : ℕ) (xs : List ℤ) (zones : ℕ) → zones ≡ qrs_count s
    → Reached s beat first xs zones xs 0 0
unfolding beat_place
reached_none s beat first xs zones e =
    let n : zones - 0 ≡ qrs_count s = omega arith in
    record {
      within = omega arith;
      long = refl;
      zone = omega arith;
      places = λ m g. rw n;
      rest = λ j g. refl;
      whole = rw (add-zero first) (sym (before_none (add_beat s beat first xs)));
    }

-- at the end
pub reached_all : {s : List ℕ} {beat : List ℤ} {first : ℕ} {xs : List ℤ} {zones : ℕ} {room : List ℤ} {k i : ℕ}
    → Reached s beat first xs zones room k i → length xs ≤ i → rebuilt room ≡ add_beat s beat first xs
reached_all {s} {beat} {first} {xs} {zones} {room} {k} {i} r h =
    let long = r.long in
    sym (r.whole ∙ rw (add_end s beat (first + i) xs i h, take_all i room (omega arith)) (ap rebuilt (append-nil room)))

at_least : (n : ℕ) → (n < 32768 → ⊥) → 32768 ≤ n
at_least n h = go (dec_lt n 32768)
  where
    go : Dec (n < 32768) → 32768 ≤ n
    go (yes l) = absurd (h l)
    go (no l) = omega arith

-- a whole number of 16 bits
fits_true : (z : ℤ) → FitsSigned w16 z → fits16 z ≡ true
unfolding fits16
fits_true (pos n) h = lt-ltb n 32768 (omega arith)
fits_true (negsuc n) h = lt-ltb n 32768 (omega arith)

fits_false : (z : ℤ) → (FitsSigned w16 z → ⊥) → fits16 z ≡ false
unfolding fits16
fits_false (pos n) h = le-ltb n 32768 (at_least n (λ l. h (record { sfits = l })))
fits_false (negsuc n) h = le-ltb n 32768 (at_least n (λ l. h (record { sfits = l })))

-- sample i gets b, from zone `next` on
pub record Turn (s : List ℕ) (beat : List ℤ) (first : ℕ) (xs : List ℤ) (zones : ℕ) (room : List ℤ) (k i next : ℕ) (b : ℤ) : Type 0 where
  pub reached : Reached s beat first xs zones room k i
  pub some : i < length xs
  pub zone : next ≤ zones
  pub alike : Alike s zones k next (first + i)
  pub added : b ≡ beat_value_at beat (beat_place_from s (zones - next) next (first + i))

module _ {s : List ℕ} {beat : List ℤ} {first : ℕ} {xs : List ℤ} {zones : ℕ} {room : List ℤ} {k i next : ℕ} {b : ℤ}
    (t : Turn s beat first xs zones room k i next b) where
  turn_sum : get_or xs i (pos 0) +ℤ beat_value_at beat (beat_place s (first + i)) ≡ get_or room i (pos 0) +ℤ b
  turn_sum =
      let r = t.reached in
      let place = r.places (first + i) (omega arith) ∙ t.alike (first + i) (omega arith) in
      ap₂ ◌+ℤ◌ (sym (r.rest i (omega arith))) (ap (beat_value_at beat) place ∙ sym t.added)

  -- the sum is outside 16 bits
  pub turn_fault : (FitsSigned w16 (get_or room i (pos 0) +ℤ b) → ⊥) → fault 13 ≡ add_beat s beat first xs
  turn_fault f =
      let z = get_or room i (pos 0) +ℤ b in
      sym (t.reached.whole ∙ ap (before (take i room)) (add_fault s beat (first + i) xs i t.some z turn_sum (fits_false z f)))

  -- or within, and is stored
  pub turn_more : (z : ℤ) → FitsSigned w16 (get_or room i (pos 0) +ℤ b) → z ≡ get_or room i (pos 0) +ℤ b
      → Reached s beat first xs zones (set room i z) next (i + 1)
  turn_more z f e =
      let r = t.reached in
      let long = r.long in
      let some = t.some in
      let fits : fits16 z ≡ true = rw e (fits_true (get_or room i (pos 0) +ℤ b) f) in
      let more = add_more s beat (first + i) xs i some z (turn_sum ∙ sym e) fits in
      let place : first + i + 1 ≡ first + (i + 1) = omega arith in
      let stored : take i room ++ (z ∷ []) ≡ take (i + 1) (set room i z) = rw (add-one i) (sym (take-suc-set room i z (omega arith))) in
      record {
        within = omega arith;
        long = length-set room i z ∙ long;
        zone = t.zone;
        places = λ m l. r.places m (omega arith) ∙ t.alike m (omega arith);
        rest = λ j l. get_or-set_other room i j z (pos 0) (λ q. absurd (omega arith)) ∙ r.rest j (omega arith);
        whole =
            r.whole ∙ ap (before (take i room)) more ∙ before_more (take i room) z (add_beat s beat (first + i + 1) (drop (i + 1) xs))
            ∙ ap₂ before stored (ap (λ (m : ℕ). add_beat s beat m (drop (i + 1) xs)) place);
      }

-- a sum that was asked for: there where P holds, and refused where not
pub sum_there : {P : Type 0} {v : ℤ} (o : Option ℤ) (x : ℤ) (e : Refusal) → SomeIff o P v → ok_or o e ≡ Ok x → P × (x ≡ v)
sum_there None x e s h = unlike cc
sum_there (Some y) x e s h = (s.0, cc)

pub sum_missing : {P : Type 0} (v : ℤ) (o : Option ℤ) (r e : Refusal) → SomeIff o P v → ok_or o e ≡ Err r → P → ⊥
sum_missing v None r e s h = s
sum_missing v (Some y) r e s h = unlike cc
