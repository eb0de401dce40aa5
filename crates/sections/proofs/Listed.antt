-- The sections of a list and their pointers: where each is, and the order of their IDs. Assumes nothing.
use Prim.Native.Nat.{ℕ, zero, suc, ◌+◌, ◌*◌, ◌≤◌, ◌<◌}
use mathlib.Core.Path.{◌≡◌, refl, ap, ◌∙◌}
use mathlib.Core.Bool.{Bool, true, cond, ◌&&◌, and-eq-true_iff}
use mathlib.Core.List.{List, [], ◌∷◌}
use native.Mathlib.Nat.{add-zero}
use native.Mathlib.Omega.{arith}
use borrow.Author.Tests.{ltb-true}
use lib.Dec.{eqb, ltb}
use lib.ListN.{length, take, length-append}
use Rattle.wire.proofs.Places.{Stands, stands_inner, stands_first, stands_behind, stands_whole, stands_at}
use Rattle.layout.specs.Layout.{pointer_bytes}
use Rattle.layout.proofs.Laws.{length_pointer_bytes}
use Rattle.sections.specs.Sections.{Section, nth, bodies, total_length, index_for, pointers_for, rising}

-- ---- their bytes

pub length_bodies : (ss : List Section) → length (bodies ss) ≡ total_length ss
unfolding bodies total_length
length_bodies [] = refl
length_bodies (s ∷ ss) = length-append s.bytes (bodies ss) ∙ ap (λ (n : ℕ). length s.bytes + n) (length_bodies ss)

-- the place of the j-th, where the first starts at a place
unfoldable pub place_at : ℕ → List Section → ℕ → ℕ
place_at place ss zero = place
place_at place [] (suc j) = place
place_at place (s ∷ ss) (suc j) = place_at (place + length s.bytes) ss j

-- it is there
pub section_stands : (ss : List Section) {r : List ℕ} (place j : ℕ) → j < length ss → Stands r place (bodies ss)
    → Stands r (place_at place ss j) (nth ss j).bytes
unfolding bodies place_at
section_stands [] place j h s = absurd (omega arith)
section_stands (x ∷ ss) place zero h s = stands_at (add-zero place) (stands_inner s (stands_first x.bytes (bodies ss)))
section_stands (x ∷ ss) place (suc j) h s =
    let e : place + (length x.bytes + 0) ≡ place + length x.bytes = omega arith in
    let later = stands_at e (stands_inner s (stands_behind x.bytes (bodies ss) (stands_whole (bodies ss)))) in
    section_stands ss (place + length x.bytes) j (omega arith) later

-- that is behind all before it
pub place_total : (ss : List Section) (place j : ℕ) → j < length ss → place_at place ss j ≡ place + total_length (take j ss)
unfolding place_at total_length
place_total [] place j h = absurd (omega arith)
place_total (s ∷ ss) place zero h = omega arith
place_total (s ∷ ss) place (suc j) h = omega (arith, place_total ss (place + length s.bytes) j (omega arith))

-- none starts before the first
pub place_least : (ss : List Section) (place j : ℕ) → place ≤ place_at place ss j
unfolding place_at
place_least ss place zero = omega arith
place_least [] place (suc j) = omega arith
place_least (s ∷ ss) place (suc j) = let h = place_least ss (place + length s.bytes) j in omega arith

-- each ends before those behind it
pub place_apart : (ss : List Section) (place i j : ℕ) → i < j → j < length ss
    → place_at place ss i + length (nth ss i).bytes ≤ place_at place ss j
unfolding place_at
place_apart [] place i j a b = absurd (omega arith)
place_apart (s ∷ ss) place i zero a b = absurd (omega arith)
place_apart (s ∷ ss) place zero (suc j) a b = place_least ss (place + length s.bytes) j
place_apart (s ∷ ss) place (suc i) (suc j) a b = place_apart ss (place + length s.bytes) i j (omega arith) (omega arith)

-- ---- their pointers

-- the pointer of a section that starts at a place
abbrev pub pointer_of : Section → ℕ → List ℕ
pointer_of s place = pointer_bytes s.id (length s.bytes) (index_for s.bytes place)

length_pointer_of : (s : Section) (place : ℕ) → length (pointer_of s place) ≡ 10
length_pointer_of s place = length_pointer_bytes s.id (length s.bytes) (index_for s.bytes place)

pub length_pointers_for : (ss : List Section) (place : ℕ) → length (pointers_for place ss) ≡ 10 * length ss
unfolding pointers_for
length_pointers_for [] place = refl
length_pointers_for (s ∷ ss) place =
    let next = place + length s.bytes in
    length-append (pointer_of s place) (pointers_for next ss) ∙ omega (arith, length_pointer_of s place, length_pointers_for ss next)

-- the j-th is behind j others
pub pointer_stands : (ss : List Section) (place j : ℕ) → j < length ss
    → Stands (pointers_for place ss) (10 * j) (pointer_of (nth ss j) (place_at place ss j))
unfolding pointers_for place_at
pointer_stands [] place j h = absurd (omega arith)
pointer_stands (s ∷ ss) place zero h = stands_first (pointer_of s place) (pointers_for (place + length s.bytes) ss)
pointer_stands (s ∷ ss) place (suc j) h =
    let next = place + length s.bytes in
    let e : length (pointer_of s place) + 10 * j ≡ 10 * suc j = omega (arith, length_pointer_of s place) in
    stands_at e (stands_behind (pointer_of s place) (pointers_for next ss) (pointer_stands ss next j (omega arith)))

-- ---- the order of their IDs

-- the rule of the k-th
abbrev pub id_rule : ℕ → ℕ → ℕ → Bool
id_rule k before id = cond (ltb k 12) (eqb id k) (ltb before id)

pub rising_parts : (k before : ℕ) (s : Section) (ss : List Section) → rising k before (s ∷ ss) ≡ true
    → (id_rule k before s.id ≡ true) × (s.id < 65536) × (rising (k + 1) s.id ss ≡ true)
unfolding rising
rising_parts k before s ss t =
    let a = (and-eq-true_iff (id_rule k before s.id) (ltb s.id 65536 && rising (k + 1) s.id ss)).0 t in
    let b = (and-eq-true_iff (ltb s.id 65536) (rising (k + 1) s.id ss)).0 a.1 in
    (a.0, ltb-true s.id 65536 b.0, b.1)

-- the ID before the j-th
unfoldable pub id_before : ℕ → List Section → ℕ → ℕ
id_before before ss zero = before
id_before before ss (suc j) = (nth ss j).id

-- the j-th ID keeps its rule, and has room
pub rising_at : (ss : List Section) (k before j : ℕ) → j < length ss → rising k before ss ≡ true
    → id_rule (k + j) (id_before before ss j) (nth ss j).id ≡ true
unfolding id_before
rising_at [] k before j h t = absurd (omega arith)
rising_at (s ∷ ss) k before zero h t = rw (add-zero k) (rising_parts k before s ss t).0
rising_at (s ∷ ss) k before (suc zero) h t =
    let later = rising_at ss (k + 1) s.id 0 (omega arith) (rising_parts k before s ss t).2 in
    rw (add-zero (k + 1)) at later
rising_at (s ∷ ss) k before (suc (suc j)) h t =
    let e : k + 1 + suc j ≡ k + suc (suc j) = omega arith in
    rw e at (rising_at ss (k + 1) s.id (suc j) (omega arith) (rising_parts k before s ss t).2)

pub rising_small : (ss : List Section) (k before j : ℕ) → j < length ss → rising k before ss ≡ true → (nth ss j).id < 65536
rising_small [] k before j h t = absurd (omega arith)
rising_small (s ∷ ss) k before zero h t = (rising_parts k before s ss t).1
rising_small (s ∷ ss) k before (suc j) h t = rising_small ss (k + 1) s.id j (omega arith) (rising_parts k before s ss t).2
