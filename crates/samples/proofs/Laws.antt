-- Differences and traces: what the proofs of this crate and of those above it cite. Assumes nothing.
use Prim.Native.Nat.{ℕ, zero, suc, ◌+◌, ◌-◌, ◌≤◌, ◌<◌}
use mathlib.Core.Path.{◌≡◌, refl, sym, ap, ◌∙◌}
use mathlib.Core.List.{List, [], ◌∷◌, ◌++◌, append_assoc}
use native.Mathlib.Nat.{zero-add, add-zero}
use native.Mathlib.Omega.{arith}
use lib.IntN.{ℤ, pos}
use lib.ListN.{length, get_or}
use Rattle.std.proofs.lemmas.Int.{ints, to_z-of_z}
use Rattle.std.proofs.lemmas.Bool.Decides.{nat_tests}
use Rattle.samples.specs.Differences.{stored_of, sample_of, stored_from, differences}
use Rattle.samples.specs.Trace.{Trace, rebuilt, fault, behind}
use Rattle.samples.specs.InnerTrace.{before}

-- samples before those of a trace, and one more
pub before_more : (xs : List ℤ) (x : ℤ) (t : Trace) → before xs (behind x t) ≡ before (xs ++ (x ∷ [])) t
before_more xs x (rebuilt ys) = ap rebuilt (sym (append_assoc xs (x ∷ []) ys))
before_more xs x (fault n) = refl

-- no samples before those of a trace
pub before_none : (t : Trace) → before [] t ≡ t
before_none (rebuilt ys) = refl
before_none (fault n) = refl

-- the value stored for a sample decodes to that sample
pub sample_stored : (order place : ℕ) (x last other : ℤ) → sample_of order place (stored_of order place x last other) last other ≡ x
unfolding sample_of stored_of
sample_stored zero place x last other = refl
sample_stored (suc zero) place x last other = grind (arith, ints, nat_tests)
sample_stored (suc (suc k)) place x last other = grind (arith, ints, nat_tests)

-- and a value is what is stored for the sample that it decodes to
pub stored_sample : (order place : ℕ) (v last other : ℤ) → stored_of order place (sample_of order place v last other) last other ≡ v
unfolding sample_of stored_of
stored_sample zero place v last other = refl
stored_sample (suc zero) place v last other = grind (arith, ints, nat_tests)
stored_sample (suc (suc k)) place v last other = grind (arith, ints, nat_tests)

-- samples that are not there do not matter to the value stored
stored_any : (order place : ℕ) (x last other last' other' : ℤ) → (1 ≤ place → last ≡ last') → (2 ≤ place → other ≡ other')
    → stored_of order place x last other ≡ stored_of order place x last' other'
unfolding stored_of
stored_any zero place x last other last' other' h g = refl
stored_any (suc zero) zero x last other last' other' h g = refl
stored_any (suc zero) (suc place) x last other last' other' h g = rw (h (omega arith))
stored_any (suc (suc k)) zero x last other last' other' h g = refl
stored_any (suc (suc k)) (suc zero) x last other last' other' h g = refl
stored_any (suc (suc k)) (suc (suc place)) x last other last' other' h g = rw (h (omega arith), g (omega arith))

-- the value stored at a place behind the first
stored_from_lem : (order place : ℕ) (last other : ℤ) (xs : List ℤ) (i : ℕ) → i < length xs
    → get_or (stored_from order place last other xs) i (pos 0)
    ≡ stored_of order (place + i) (get_or xs i (pos 0)) (get_or (last ∷ xs) i (pos 0)) (get_or (other ∷ last ∷ xs) i (pos 0))
unfolding stored_from
stored_from_lem order place last other [] i h = absurd (omega arith)
stored_from_lem order place last other (x ∷ xs) zero h = rw (add-zero place)
stored_from_lem order place last other (x ∷ xs) (suc i) h =
    let e : place + 1 + i ≡ place + suc i = omega arith in
    rw e at (stored_from_lem order (place + 1) x last xs i (omega arith))

-- the value stored at place i is that of the samples there and before; where there are none before, any serve
pub stored_at : (order : ℕ) (xs : List ℤ) (i : ℕ) (last other : ℤ) → i < length xs
    → (1 ≤ i → last ≡ get_or xs (i - 1) (pos 0)) → (2 ≤ i → other ≡ get_or xs (i - 2) (pos 0))
    → get_or (differences order xs) i (pos 0) ≡ stored_of order i (get_or xs i (pos 0)) last other
unfolding differences
stored_at order xs i last other h one two =
    let none = pos 0 in
    let first : 1 ≤ i → get_or (none ∷ xs) i none ≡ last =
    λ g. (let e : i ≡ suc (i - 1) = omega arith in ap (λ (k : ℕ). get_or (none ∷ xs) k none) e ∙ sym (one g)) in
    let second : 2 ≤ i → get_or (none ∷ none ∷ xs) i none ≡ other =
    λ g. (let e : i ≡ suc (suc (i - 2)) = omega arith in ap (λ (k : ℕ). get_or (none ∷ none ∷ xs) k none) e ∙ sym (two g)) in
    let any = stored_any order i (get_or xs i none) (get_or (none ∷ xs) i none) (get_or (none ∷ none ∷ xs) i none) last other first second in
    stored_from_lem order 0 none none xs i h ∙ rw (zero-add i) any

length_from : (order place : ℕ) (last other : ℤ) (xs : List ℤ) → length (stored_from order place last other xs) ≡ length xs
unfolding stored_from
length_from order place last other [] = refl
length_from order place last other (x ∷ xs) = ap suc (length_from order (place + 1) x last xs)

-- as many values are stored as there are samples
pub length_differences : (order : ℕ) (xs : List ℤ) → length (differences order xs) ≡ length xs
unfolding differences
length_differences order xs = length_from order 0 (pos 0) (pos 0) xs

-- what tells numbers with and without a sign from one another
pub ruleset signs = (ints, nat_tests, to_z-of_z)
