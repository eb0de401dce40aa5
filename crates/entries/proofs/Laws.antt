-- Laws that the proofs of the crates above cite. Assumes nothing.
use Prim.Native.Nat.{ℕ, ◌≤◌, ◌<◌}
use mathlib.Core.Path.{◌≡◌}
use mathlib.Core.Bool.{true, not, and-eq-true_iff}
use mathlib.Core.List.{List}
use native.Mathlib.Omega.{arith}
use lib.Dec.{leb, eqb}
use borrow.Author.Tests.{leb-true, eqb-false, not-true}
use Rattle.wire.specs.RuleWords.{all_in}
use Rattle.wire.proofs.Laws.{all_at}
use Rattle.entries.specs.Section3.{lead_count, first_sample, last_sample, sample_count, lead_right, section3_right}
use Rattle.entries.specs.Sections5And6.{step_of, interval_of, streams_right}

-- what Section 3's rule says
pub record RightLeads (s : List ℕ) : Type 0 where
  pub some : 1 ≤ lead_count s
  pub most : lead_count s ≤ 32
  pub right : all_in 0 (lead_count s) (lead_right s) ≡ true

-- a Section 3 that keeps it
pub leads_right : (s : List ℕ) → section3_right s ≡ true → RightLeads s
unfolding section3_right
leads_right s h =
    let n = lead_count s in
    let p = (and-eq-true_iff (leb 1 n) _).0 h in
    let q = (and-eq-true_iff (leb n 32) _).0 p.1 in
    let r = (and-eq-true_iff (all_in 0 n (lead_right s)) _).0 q.1 in
    record { some = leb-true 1 n p.0; most = leb-true n 32 q.0; right = r.0 }

-- each of its leads has 1 to 65,536 samples
pub lead_samples : (s : List ℕ) (k : ℕ) → section3_right s ≡ true → k < lead_count s → (1 ≤ sample_count s k) × (sample_count s k ≤ 65536)
unfolding lead_right
lead_samples s k h g =
    let t = all_at (lead_right s) 0 (lead_count s) (leads_right s h).right k (omega arith) g in
    let p = (and-eq-true_iff (leb 1 (first_sample s k)) _).0 t in
    let q = (and-eq-true_iff (leb (first_sample s k) (last_sample s k)) _).0 p.1 in
    omega (arith, leb-true)

-- streams that keep their rule have an interval
pub interval_some : (n : ℕ) (s : List ℕ) → streams_right n s ≡ true → 0 < interval_of s
unfolding streams_right
interval_some n s h =
    let p = (and-eq-true_iff (not (eqb (step_of s) 0)) _).0 h in
    let q = (and-eq-true_iff (not (eqb (interval_of s) 0)) _).0 p.1 in
    let z = eqb-false (interval_of s) 0 (not-true (eqb (interval_of s) 0) q.0) in
    omega arith
