-- Laws that the proofs of this crate and of those above it cite. Assumes nothing.
use Prim.Native.Nat.{ℕ, zero, suc, ◌+◌, ◌-◌, ◌≤◌, ◌<◌}
use mathlib.Core.Path.{◌≡◌, refl, sym, ap, subst, ◌∙◌}
use mathlib.Core.Bool.{Bool, true, false, cond}
use mathlib.Core.List.{List, [], ◌∷◌, ◌++◌, append-nil}
use mathlib.Core.Logic.{◌⊎◌}
use native.Mathlib.Nat.{add-zero, sub-zero}
use native.Mathlib.Numerals.{add-one}
use native.Mathlib.Omega.{arith}
use lib.Dec.{leb}
use lib.IntN.{ℤ, pos}
use lib.ListN.{length, take, drop, set}
use lib.Seq.{take_all, take-suc-set}
use Rattle.bits.specs.InnerRaised.{from_zero}
use Rattle.bits.proofs.Raised.{lower_same}
use Rattle.samples.specs.Differences.{sample_of}
use Rattle.samples.specs.Trace.{Trace, rebuilt, fault, fits16, behind, after_sample}
use Rattle.samples.specs.InnerTrace.{before, trace_of}
use Rattle.samples.proofs.Laws.{signs, before_none, before_more}
use Rattle.tables.specs.declared.Structure.{Structure}
use Rattle.reading.specs.Reading.{Next, gave, stuck, read_next}
use Rattle.reading.specs.Compared.{compared_from, compared_of}
use Rattle.traces.specs.Rebuilding.{after_next, most_left_over, rebuild_from, rebuild}

-- ---- one sample

-- a sample that is held with 229,376 added is of 16 bits, or not
fits_within : (y : ℕ) → 196608 ≤ y → y < 262144 → fits16 (from_zero 229376 y) ≡ true
unfolding from_zero fits16
fits_within y h g = grind (arith, signs)

fits_outside : (y : ℕ) → (y < 196608) ⊎ (262144 ≤ y) → fits16 (from_zero 229376 y) ≡ false
unfolding from_zero fits16
fits_outside y o = grind (arith, signs)

module _ (tables : List (List Structure)) (order left place : ℕ) (last other : ℤ) (table : ℕ) (bs : List ℕ) where
  -- a value was read, and y holds its sample
  module _ {v : ℤ} {next : ℕ} {rest : List ℕ} (read : gave v next rest ≡ read_next tables table bs) (y : ℕ)
      (e : from_zero 229376 y ≡ sample_of order place v last other) where
    -- the rest goes on from it
    pub from_sample : 196608 ≤ y → y < 262144 →
        let x = from_zero 32768 (y - 196608) in
        behind x (rebuild_from tables order left (place + 1) x last next rest)
        ≡ rebuild_from tables order (suc left) place last other table bs
    unfolding rebuild_from after_sample
    from_sample h g =
        let x = lower_same 32768 (y - 196608) 229376 y (omega arith) in
        rw (x, ← read, ← e, fits_within y h g)

    -- it is outside 16 bits
    pub from_outside : (y < 196608) ⊎ (262144 ≤ y) → fault 13 ≡ rebuild_from tables order (suc left) place last other table bs
    unfolding rebuild_from after_sample
    from_outside h = rw (← read, ← e, fits_outside y h)

  -- no value was read
  pub from_stuck : stuck ≡ read_next tables table bs → fault 12 ≡ rebuild_from tables order (suc left) place last other table bs
  unfolding rebuild_from
  from_stuck read = rw (← read)

-- ---- the room

-- nothing is in it at first
pub room_start : (tables : List (List Structure)) (order n at table : ℕ) (bs : List ℕ) → at ≡ 0 → table ≡ 1
    → rebuild tables order n bs ≡ before [] (rebuild_from tables order (n - 0) 0 (from_zero 32768 32768) (from_zero 32768 32768) table (drop at bs))
unfolding rebuild from_zero
room_start tables order n at table bs e f = rw (e, f, sub-zero, before_none (rebuild_from tables order n 0 (pos 0) (pos 0) 1 bs))

-- and nothing is compared yet
pub sum_start : (tables : List (List Structure)) (n at table compared : ℕ) (bs : List ℕ) → at ≡ 0 → table ≡ 1 → compared ≡ 0
    → compared + compared_from tables (n - 0) table (drop at bs) ≡ compared_of tables n bs
unfolding compared_of
sum_start tables n at table compared bs e f g = rw (e, f, g, sub-zero) (omega arith)

-- a sample is put behind those that are there
pub room_turn : {all : Trace} (rest : Trace) (room : List ℤ) (j : ℕ) (x : ℤ) → j < length room → all ≡ before (take j room) (behind x rest)
    → all ≡ before (take (j + 1) (set room j x)) rest
room_turn rest room j x h e =
    let more : take (j + 1) (set room j x) ≡ take j room ++ (x ∷ []) = rw (add-one j) (take-suc-set room j x h) in
    e ∙ before_more (take j room) x rest ∙ ap (λ (l : List ℤ). before l rest) (sym more)

-- a fault ends the work
pub room_fault : (number : ℕ) (room : List ℤ) → 1 ≤ number → trace_of number room ≡ fault number
room_fault zero room h = absurd (omega arith)
room_fault (suc n) room h = refl

-- no value is left
pub sum_end : (tables : List (List Structure)) (left table : ℕ) (bs : List ℕ) {compared all : ℕ} → left ≡ 0
    → compared + compared_from tables left table bs ≡ all → compared ≡ all
unfolding compared_from
sum_end tables left table bs {compared} none e = sym (add-zero compared) ∙ rw none at e

-- all samples are there: no more bits are left over than may be, or that is the refusal
pub room_end : (tables : List (List Structure)) (order left j : ℕ) (last other : ℤ) (table : ℕ) (bs : List ℕ) → left ≡ 0
    → (room : List ℤ) → length room ≤ j → (number : ℕ) → number ≡ cond (leb (length bs) most_left_over) 0 14
    → trace_of number room ≡ before (take j room) (rebuild_from tables order left j last other table bs)
unfolding rebuild_from
room_end tables order left j last other table bs none room g number e = rw (none, e) (go (leb (length bs) most_left_over))
  where
    go : (b : Bool) → trace_of (cond b 0 14) room ≡ before (take j room) (cond b (rebuilt []) (fault 14))
    go true = rw (append-nil (take j room), take_all j room g)
    go false = refl

-- ---- how many samples there are

-- a trace of n samples, or a fault
abbrev Counted : ℕ → Trace → Type 0
Counted n (rebuilt xs) = length xs ≡ n
Counted n (fault number) = Unit {0}

counted_behind : (n : ℕ) (x : ℤ) (t : Trace) → Counted n t → Counted (suc n) (behind x t)
counted_behind n x (rebuilt xs) h = ap suc h
counted_behind n x (fault number) h = tt

counted_sample : (n : ℕ) (go_on : ℤ → Trace) (x : ℤ) → Counted n (go_on x) → Counted (suc n) (after_sample go_on x)
unfolding after_sample
counted_sample n go_on x h = go (fits16 x)
  where
    go : (b : Bool) → Counted (suc n) (cond b (behind x (go_on x)) (fault 13))
    go true = counted_behind n x (go_on x) h
    go false = tt

counted_from : (tables : List (List Structure)) (order left place : ℕ) (last other : ℤ) (table : ℕ) (bs : List ℕ)
    → Counted left (rebuild_from tables order left place last other table bs)
unfolding rebuild_from
counted_from tables order zero place last other table bs = go (leb (length bs) most_left_over)
  where
    go : (b : Bool) → Counted 0 (cond b (rebuilt []) (fault 14))
    go true = refl
    go false = tt
counted_from tables order (suc left) place last other table bs =
    go (read_next tables table bs) (λ x next rest. counted_from tables order left (place + 1) x last next rest)
  where
    go_on : ℕ → List ℕ → ℤ → Trace
    go_on next rest x = rebuild_from tables order left (place + 1) x last next rest

    go : (r : Next) → ((x : ℤ) (next : ℕ) (rest : List ℕ) → Counted left (go_on next rest x))
        → Counted (suc left) (after_next (λ v next rest. after_sample (go_on next rest) (sample_of order place v last other)) r)
    go (gave v next rest) h =
        let x = sample_of order place v last other in
        counted_sample left (go_on next rest) x (h x next rest)
    go stuck h = tt

-- as many samples are rebuilt as were asked for
pub rebuilt_length : (tables : List (List Structure)) (order count : ℕ) (bs : List ℕ) (xs : List ℤ)
    → rebuild tables order count bs ≡ rebuilt xs → length xs ≡ count
unfolding rebuild
rebuilt_length tables order count bs xs h = subst (Counted count) h (counted_from tables order count 0 (pos 0) (pos 0) 1 bs)
