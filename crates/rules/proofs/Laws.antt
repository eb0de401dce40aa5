-- The properties of a record from which a lead can be read: none of the refusals 1 to 10 applies. Assumes nothing.
use Prim.Native.Nat.{ℕ, ◌<◌, ◌≤◌}
use mathlib.Core.Path.{◌≡◌, refl}
use mathlib.Core.Bool.{Bool, true, false, not, ◌||◌, cond, and-eq-true_iff}
use mathlib.Core.List.{List}
use lib.Dec.{leb, eqb}
use borrow.Author.Tests.{leb-true, eqb-true, eqb-false}
use Rattle.wire.proofs.Laws.{kept_first, unlike}
use Rattle.pointers.specs.Pointers.{present, section_of}
use Rattle.record.specs.Opening.{open_refusal, opens}
use Rattle.entries.specs.Section3.{section3_right}
use Rattle.entries.specs.Sections5And6.{interval_of, streams_right, section6_right}
use Rattle.entries.specs.Section4.{section4_right}
use Rattle.entries.proofs.Laws.{leads_right, interval_some}
use Rattle.rules.specs.LeadRules.{tables_right, lead_count_of, beat_subtracted, beat_sample_count, beat_right}
use Rattle.rules.specs.LeadRules.{section6_kept, sections3_to6_right, agrees, has_lead, lead_refusal}

-- a Section 3 that keeps its rule has at most 32 leads
pub few_leads : (r : List ℕ) → section3_right (section_of r 3) ≡ true → lead_count_of r ≤ 32
few_leads r h = (leads_right (section_of r 3) h).most

-- a record from which the lead at a place can be read
pub record Sound (r : List ℕ) (place : ℕ) : Type 0 where
  pub tables : tables_right r ≡ true
  pub leads : section3_right (section_of r 3) ≡ true
  pub beat : beat_right r ≡ true
  pub streams : section6_right (lead_count_of r) (section_of r 6) ≡ true
  pub first : 1 ≤ place
  pub last : place ≤ lead_count_of r

-- where refusals that come before others answer 0 with them, both do
pub both_passed : (first later : ℕ) → cond (eqb first 0) later first ≡ 0 → (first ≡ 0) × (later ≡ 0)
both_passed first later = go (eqb first 0) refl
  where
    go : (b : Bool) → eqb first 0 ≡ b → cond b later first ≡ 0 → (first ≡ 0) × (later ≡ 0)
    go true e h = (eqb-true first 0 e, h)
    go false e h = absurd (eqb-false first 0 e h)

-- a rule that is asked only where something is present
pub asked : (b c : Bool) → not b || c ≡ true → b ≡ true → c ≡ true
asked true c h e = h
asked false c h e = unlike cc

-- the lead at the place asked for is there
there : (r : List ℕ) (place : ℕ) → has_lead r place ≡ true
    → (present r 3 ≡ true) × (present r 6 ≡ true) × (1 ≤ place) × (place ≤ lead_count_of r)
unfolding has_lead
there r place h =
    let p = (and-eq-true_iff (present r 3) _).0 h in
    let q = (and-eq-true_iff (present r 6) _).0 p.1 in
    let w = (and-eq-true_iff (leb 1 place) _).0 q.1 in
    (p.0, q.0, leb-true 1 place w.0, leb-true place (lead_count_of r) w.1)

-- Sections 3 to 6 where Sections 3 and 6 are present
judged : (r : List ℕ) → sections3_to6_right r ≡ true → present r 3 ≡ true → present r 6 ≡ true →
    (section3_right (section_of r 3) ≡ true) × (beat_right r ≡ true) × (section6_right (lead_count_of r) (section_of r 6) ≡ true)
unfolding sections3_to6_right section6_kept
judged r h three six =
    let p = (and-eq-true_iff (section3_right (section_of r 3)) _).0 (rw three at h) in
    let q = (and-eq-true_iff (beat_right r) _).0 p.1 in
    (p.0, q.0, asked (present r 6) (section6_right (lead_count_of r) (section_of r 6)) q.1 six)

pub sound : (r : List ℕ) (place : ℕ) → lead_refusal r place ≡ 0 → Sound r place
unfolding lead_refusal opens
sound r place h =
    let a = kept_first (tables_right r) 6 _ (both_passed (open_refusal r) _ h).1 in
    let b = kept_first (sections3_to6_right r) 7 _ a.1 in
    let c = kept_first (agrees r) 8 _ b.1 in
    let d = kept_first (has_lead r place) 9 _ c.1 in
    let t = there r place d.0 in
    let j = judged r b.0 t.0 t.1 in
    record { tables = a.0; leads = j.0; beat = j.1; streams = j.2; first = t.2; last = t.3 }

-- what Sections 4 and 5 keep where a beat was subtracted
pub sound_beat : (r : List ℕ) → beat_right r ≡ true → beat_subtracted r ≡ true →
    (streams_right (lead_count_of r) (section_of r 5) ≡ true) × (section4_right (beat_sample_count r) (section_of r 4) ≡ true)
unfolding beat_right
sound_beat r h e =
    let p = (and-eq-true_iff (present r 4) _).0 (asked (beat_subtracted r) _ h e) in
    let q = (and-eq-true_iff (present r 5) _).0 p.1 in
    (and-eq-true_iff (streams_right (lead_count_of r) (section_of r 5)) _).0 q.1

-- so that Section 5 has an interval
pub interval_there : (r : List ℕ) → beat_right r ≡ true → beat_subtracted r ≡ true → 0 < interval_of (section_of r 5)
interval_there r h e = interval_some (lead_count_of r) (section_of r 5) (sound_beat r h e).0

-- and Section 4 keeps its rule for the beat's samples
pub beat_kept : (r : List ℕ) → beat_right r ≡ true → beat_subtracted r ≡ true → section4_right (beat_sample_count r) (section_of r 4) ≡ true
beat_kept r h e = (sound_beat r h e).1
