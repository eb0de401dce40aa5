-- The fault that streams have is 12, 13 or 14 (01, Refusal numbers). Assumes nothing.
use Prim.Native.Nat.{ℕ, zero, suc, ◌+◌}
use mathlib.Core.Path.{◌≡◌, refl}
use mathlib.Core.Bool.{Bool, true, false, cond}
use mathlib.Core.List.{List, [], ◌∷◌}
use mathlib.Core.Logic.{◌⊎◌, inl, inr}
use lib.Dec.{leb}
use lib.IntN.{ℤ, pos, ◌+ℤ◌}
use lib.ListN.{length}
use Rattle.bits.specs.Bits.{bits_in}
use Rattle.pointers.specs.Pointers.{section_of}
use Rattle.tables.specs.declared.Structure.{Structure}
use Rattle.reading.specs.Reading.{Next, gave, stuck, read_next}
use Rattle.samples.specs.Differences.{sample_of}
use Rattle.samples.specs.Trace.{Trace, rebuilt, fault, fits16, behind, after_sample, after_trace}
use Rattle.traces.specs.Rebuilding.{after_next, most_left_over, rebuild_from, rebuild}
use Rattle.entries.specs.Section3.{first_sample}
use Rattle.entries.specs.Sections5And6.{order_of, stream_of}
use Rattle.beats.specs.Sums.{beat_place, beat_value_at, add_beat}
use Rattle.rules.specs.LeadRules.{lead_count_of, beat_subtracted, beat_sample_count}
use Rattle.leads.specs.LeadTrace.{tables_of, stream_trace, sample_count_at, residual, trace_at}

-- a fault that streams have is 12, 13 or 14
abbrev Fault : Trace → Type 0
Fault (rebuilt xs) = Unit {0}
Fault (fault n) = (n ≡ 12) ⊎ (n ≡ 13) ⊎ (n ≡ 14)

fault_behind : (x : ℤ) (t : Trace) → Fault t → Fault (behind x t)
fault_behind x (rebuilt xs) h = h
fault_behind x (fault n) h = h

fault_sample : (go_on : ℤ → Trace) (x : ℤ) → ((y : ℤ) → Fault (go_on y)) → Fault (after_sample go_on x)
unfolding after_sample
fault_sample go_on x h = go (fits16 x)
  where
    go : (b : Bool) → Fault (cond b (behind x (go_on x)) (fault 13))
    go true = fault_behind x (go_on x) (h x)
    go false = inr (inl refl)

fault_rebuilt : (tables : List (List Structure)) (order left place : ℕ) (last other : ℤ) (table : ℕ) (bs : List ℕ)
    → Fault (rebuild_from tables order left place last other table bs)
unfolding rebuild_from
fault_rebuilt tables order zero place last other table bs = go (leb (length bs) most_left_over)
  where
    go : (b : Bool) → Fault (cond b (rebuilt []) (fault 14))
    go true = tt
    go false = inr (inr refl)
fault_rebuilt tables order (suc left) place last other table bs = go (read_next tables table bs) (fault_rebuilt tables order left (place + 1))
  where
    go : (o : Next) → ((y z : ℤ) (next : ℕ) (rest : List ℕ) → Fault (rebuild_from tables order left (place + 1) y z next rest))
        → Fault (after_next
        (λ v next rest. after_sample (λ y. rebuild_from tables order left (place + 1) y last next rest) (sample_of order place v last other)) o)
    go stuck later = inl refl
    go (gave v next rest) later =
        fault_sample (λ y. rebuild_from tables order left (place + 1) y last next rest) (sample_of order place v last other)
        (λ y. later y last next rest)

fault_added : (s : List ℕ) (beat : List ℤ) (n : ℕ) (xs : List ℤ) → Fault (add_beat s beat n xs)
unfolding add_beat
fault_added s beat n [] = tt
fault_added s beat n (x ∷ xs) =
    fault_sample (λ y. add_beat s beat (n + 1) xs) (x +ℤ beat_value_at beat (beat_place s n)) (λ y. fault_added s beat (n + 1) xs)

fault_after : (go_on : List ℤ → Trace) (t : Trace) → Fault t → ((xs : List ℤ) → Fault (go_on xs)) → Fault (after_trace t go_on)
fault_after go_on (rebuilt xs) h g = g xs
fault_after go_on (fault n) h g = h

fault_trace : (r : List ℕ) (k : ℕ) → Fault (trace_at r k)
unfolding trace_at residual stream_trace rebuild
fault_trace r k = go (beat_subtracted r)
  where
    one : (section count : ℕ) → Fault (stream_trace r section count k)
    one section count =
        fault_rebuilt (tables_of r) (order_of (section_of r section)) count 0 (pos 0) (pos 0) 1 (bits_in (stream_of (lead_count_of r) (section_of r section) k))

    go : (b : Bool) → Fault (cond b
        (after_trace (stream_trace r 5 (beat_sample_count r) k)
        (λ beat. after_trace (residual r k) (λ xs. add_beat (section_of r 4) beat (first_sample (section_of r 3) k) xs)))
        (residual r k))
    go true =
        fault_after _ (stream_trace r 5 (beat_sample_count r) k) (one 5 (beat_sample_count r))
        (λ beat. fault_after _ (residual r k) (one 6 (sample_count_at r k)) (λ xs. fault_added (section_of r 4) beat (first_sample (section_of r 3) k) xs))
    go false = one 6 (sample_count_at r k)

pub fault_number : (r : List ℕ) (k n : ℕ) → trace_at r k ≡ fault n → (n ≡ 12) ⊎ (n ≡ 13) ⊎ (n ≡ 14)
fault_number r k n e = rw e at (fault_trace r k)
