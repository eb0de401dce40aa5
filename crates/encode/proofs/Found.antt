-- The meaning of the bits found, 15, 16 and 11 for the output, and the answer then. Assumes nothing.
use Prim.Native.Nat.{ℕ, zero, suc, ◌+◌, ◌-◌, ◌/◌, ◌≤◌, ◌<◌}
use mathlib.Core.Path.{◌≡◌, refl, sym, ap, ◌∙◌}
use mathlib.Core.Bool.{Bool, true, false}
use mathlib.Core.List.{List, [], ◌++◌}
use mathlib.Core.Logic.{inl, inr}
use mathlib.Core.Option.{Option, none, some}
use native.Mathlib.Decide.{dec_lt}
use native.Mathlib.Omega.{arith}
use borrow.Author.Tests.{le-leb, lt-leb, leb-true, eq-eqb, eqb-true}
use lib.Dec.{leb, eqb}
use lib.IntN.{ℤ}
use lib.ListN.{length, drop}
use Rattle.wire.proofs.Laws.{kept_first}
use Rattle.tables.specs.declared.Structure.{Structure}
use Rattle.compiled.specs.InnerForm.{Compiled, CompiledOrNone}
use Rattle.packing.specs.Packing.{packed, bytes_for}
use Rattle.shortest.specs.Shortest.{Shortest}
use Rattle.shortest.proofs.Bridge.{exact_shortest, exact_long, exact_nothing}
use Rattle.shortest.proofs.Existence.{shortest_there}
use Rattle.search.specs.InnerSearch.{cap, Planned}
use Rattle.refusals.specs.declared.Refusal.{Refusal}
use Rattle.refusals.specs.declared.Refusal.TheVariants.{Length, RecordCheck, Section0, Placement, SectionCheck, HeaderFields, CodeTables, LeadSections, Disagreement, NotFound, Room, NoValue, OutOfRange, LeftOver, NoCode, TooLong, Request, Date, Index}
use Rattle.refusals.specs.Refusals.{number_of}
use Rattle.std.specs.Prelude.{Ok, Err}
use Rattle.encode.specs.Encoding.{SearchFinds, found_refusal, coded_as, out_as}
use Rattle.encode.specs.InnerEncode.{bits_found, coded_in, Sized, Laid, Written}

-- ---- whether a slice is empty

pub no_elements : {n : ℕ} {b : Bool} → b ≡ eqb n 0 → b ≡ true → n ≡ 0
no_elements {n} e t = eqb-true n 0 (sym e ∙ t)

pub some_element : {n : ℕ} {b : Bool} → b ≡ eqb n 0 → b ≡ false → n ≡ 0 → ⊥
some_element {n} e t z = cc (sym (eq-eqb n 0 z) ∙ sym e ∙ t)

-- ---- the bits found

-- no numbers hold no tables
pub held_none : (tables : List (List Structure)) (tab : List ℕ) → CompiledOrNone tables tab → length tab ≡ 0 → tables ≡ []
held_none tables tab (inl ready) h = absurd (omega (arith, ready.room))
held_none tables tab (inr empty) h = empty.0

-- there are tables: the way is in the work space
pub laid_plan : {tables : List (List Structure)} {tab : List ℕ} {vs : List ℤ} {work : List ℕ} {r : ℕ} → Compiled tables tab
    → Laid tables vs work r → Planned tables vs work r
laid_plan ready (inl z) = absurd (omega (arith, ready.some, ap length z))
laid_plan ready (inr plan) = plan

-- what the search says
pub plan_sized : {tables : List (List Structure)} {tab : List ℕ} → Compiled tables tab → (vs : List ℤ) (work : List ℕ) (r : ℕ)
    → r ≤ 524282 → Planned tables vs work r → Sized tables vs r
plan_sized {tables} ready vs work r most plan = go (dec_lt (plan.costs 1) cap) (dec_lt cap (plan.costs 1))
  where
    go : Dec (plan.costs 1 < cap) → Dec (cap < plan.costs 1) → Sized tables vs r
    go (yes l) d =
        let b = exact_shortest tables ready.right ready.some cap vs plan.costs plan.exact l in
        (some b.0, b.1, omega (arith, b.2, plan.total))
    go (no l) (yes g) =
        (none, exact_nothing tables ready.right ready.some cap vs plan.costs plan.exact g, omega (arith, plan.total))
    go (no l) (no g) =
        let b = exact_long tables ready.right ready.some cap vs plan.costs plan.exact (omega arith) in
        let s = shortest_there tables vs b.0.0 b.0.1 in
        (some s.0, s.1, omega (arith, b.1 s.0 s.1.stream, plan.total))

-- ---- 15, 16 and 11 for the output

module _ (bits room : ℕ) where
  pub found_none : 524281 < bits → (found : Option (List ℕ)) → bits ≡ bits_found found → 15 ≡ found_refusal room found
  unfolding found_refusal
  found_none h none e = refl
  found_none h (some bs) e = absurd (omega arith)

  pub found_long : bits ≤ 524281 → 524280 < bits → (found : Option (List ℕ)) → bits ≡ bits_found found → 16 ≡ found_refusal room found
  unfolding found_refusal
  found_long h g none e = absurd (omega arith)
  found_long h g (some bs) e = rw (lt-leb (bytes_for (length bs)) 65535 (omega arith))

  module _ (h : bits ≤ 524280) where
    pub found_full : room < (bits + 7) / 8 → (found : Option (List ℕ)) → bits ≡ bits_found found → 11 ≡ found_refusal room found
    unfolding found_refusal
    found_full g none e = absurd (omega arith)
    found_full g (some bs) e =
        rw (le-leb (bytes_for (length bs)) 65535 (omega arith), lt-leb (bytes_for (length bs)) room (omega arith))

    pub found_fits : (bits + 7) / 8 ≤ room → (found : Option (List ℕ)) → bits ≡ bits_found found → 0 ≡ found_refusal room found
    unfolding found_refusal
    found_fits g none e = absurd (omega arith)
    found_fits g (some bs) e =
        rw (le-leb (bytes_for (length bs)) 65535 (omega arith), le-leb (bytes_for (length bs)) room (omega arith))

-- no refusal: the stream has room
pub fits_found : (bits room : ℕ) (found : Option (List ℕ)) → bits ≡ bits_found found → found_refusal room found ≡ 0
    → (bits < 524281) × (bytes_for bits ≤ room)
unfolding found_refusal
fits_found bits room none e z = absurd (omega arith)
fits_found bits room (some bs) e z =
    let p = kept_first (leb (bytes_for (length bs)) 65535) 15 _ z in
    let q = kept_first (leb (bytes_for (length bs)) room) 10 0 p.1 in
    let a = leb-true (bytes_for (length bs)) 65535 p.0 in
    let b = leb-true (bytes_for (length bs)) room q.0 in
    (omega arith, omega arith)

-- ---- what is answered

-- a refusal has a number
refusal_some : (e : Refusal) → 0 < number_of e
refusal_some Length = omega arith
refusal_some RecordCheck = omega arith
refusal_some Section0 = omega arith
refusal_some Placement = omega arith
refusal_some SectionCheck = omega arith
refusal_some HeaderFields = omega arith
refusal_some CodeTables = omega arith
refusal_some LeadSections = omega arith
refusal_some Disagreement = omega arith
refusal_some NotFound = omega arith
refusal_some Room = omega arith
refusal_some NoValue = omega arith
refusal_some OutOfRange = omega arith
refusal_some LeftOver = omega arith
refusal_some NoCode = omega arith
refusal_some TooLong = omega arith
refusal_some Request = omega arith
refusal_some Date = omega arith
refusal_some Index = omega arith

-- with it nothing else is answered, and the output stays
pub refused_coded : (e : Refusal) (found : Option (List ℕ)) → coded_in (Err e) ≡ coded_as (number_of e) found
refused_coded e found = go (number_of e) (refusal_some e)
  where
    go : (n : ℕ) → 0 < n → record { refusal = n; bytes = 0; bits = 0 } ≡ coded_as n found
    go zero h = absurd (omega arith)
    go (suc n) h = refl

refused_out : (n : ℕ) (found : Option (List ℕ)) (out : List ℕ) → 0 < n → out ≡ out_as n found out
refused_out zero found out h = absurd (omega arith)
refused_out (suc n) found out h = refl

pub refused_next : (e : Refusal) → (m : ℕ) × (number_of e ≡ suc m)
refused_next e = (number_of e - 1, omega (arith, refusal_some e))

pub written_refused : (tables : List (List Structure)) (vs : List ℤ) (out : List ℕ) (bits : ℕ) (e : Refusal) → Sized tables vs bits
    → ((found : Option (List ℕ)) → bits ≡ bits_found found → number_of e ≡ found_refusal (length out) found)
    → Written tables vs out (coded_in (Err e)) out
written_refused tables vs out bits e s refusal =
    let n = refusal s.0 s.2 in
    (s.0, s.1, rw (← n) (refused_coded e s.0), rw (← n) (refused_out (number_of e) s.0 out (refusal_some e)))

-- or the stream's bytes and bits
pub written_put : (tables : List (List Structure)) (vs : List ℤ) (out out' : List ℕ) (bits : ℕ) → Sized tables vs bits
    → ((found : Option (List ℕ)) → bits ≡ bits_found found → 0 ≡ found_refusal (length out) found)
    → ((bs : List ℕ) → Shortest tables vs bs → out' ≡ packed bs ++ drop (bytes_for (length bs)) out)
    → Written tables vs out (coded_in (Ok bits)) out'
written_put tables vs out out' bits s refusal put =
    let e : found_refusal (length out) s.0 ≡ 0 = sym (refusal s.0 s.2) in
    let few = (fits_found bits (length out) s.0 s.2 e).0 in
    go s.0 s.1 s.2 e few
  where
    go : (found : Option (List ℕ)) → SearchFinds tables vs found → bits ≡ bits_found found → found_refusal (length out) found ≡ 0 → bits < 524281
        → Written tables vs out (coded_in (Ok bits)) out'
    go none f b e few = absurd (omega arith)
    go (some bs) f b e few =
        let same : length bs ≡ bits = omega arith in
        (some bs, f, rw (e, same) refl, rw e (put bs f))
