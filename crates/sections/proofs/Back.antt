-- The sections of a record laid out are those given. Assumes nothing.
use Prim.Native.Nat.{ℕ, suc, ◌+◌, ◌-◌, ◌<◌}
use mathlib.Core.Path.{◌≡◌, refl}
use mathlib.Core.List.{List, [], ◌∷◌}
use native.Mathlib.Nat.{add-zero}
use native.Mathlib.Omega.{arith}
use lib.ListN.{length}
use Rattle.pointers.specs.Pointers.{count_of, id_of, section_of}
use Rattle.sections.specs.Sections.{Section, nth, record_from, Fit, sections_from, sections_in}
use Rattle.sections.proofs.Frame.{count_is}
use Rattle.sections.proofs.Opened.{id_given, section_given}

-- a record whose pointers show the sections of a list has that list
sections_same : (r : List ℕ) (ss : List Section) (k : ℕ)
    → ((j : ℕ) → j < length ss → (id_of r (k + j) ≡ (nth ss j).id) × (section_of r (k + j) ≡ (nth ss j).bytes))
    → sections_from r k (length ss) ≡ ss
unfolding sections_from
sections_same r [] k h = refl
sections_same r (s ∷ ss) k h =
    let first : (id_of r k ≡ s.id) × (section_of r k ≡ s.bytes) = rw (add-zero k) at (h 0 (omega arith)) in
    let next : (j : ℕ) → k + suc j ≡ k + 1 + j = λ j. omega arith in
    let later = sections_same r ss (k + 1) (λ j l. rw (next j) at (h (suc j) (omega arith))) in
    rw (first.0, first.1, later)

pub sections_back : (v w : ℕ) (ss : List Section) → Fit ss → sections_in (record_from v w ss) ≡ ss
unfolding sections_in
sections_back v w ss f =
    let r = record_from v w ss in
    let n : count_of r - 1 ≡ length ss = omega (arith, count_is v w ss f) in
    let same : (j : ℕ) → j < length ss → (id_of r (1 + j) ≡ (nth ss j).id) × (section_of r (1 + j) ≡ (nth ss j).bytes) =
    λ j h. let e : 1 + j ≡ suc j = omega arith in rw e (id_given v w ss f j h, section_given v w ss f j h) in
    rw n (sections_same r ss 1 same)
