-- Section 2 as it is given, 17, 7 and 11 for the work space, and what encoding answers. Assumes nothing.
use Prim.Native.Nat.{ℕ, zero, suc, ◌*◌, ◌≤◌}
use mathlib.Core.Path.{◌≡◌, refl, sym, ◌∙◌}
use mathlib.Core.Bool.{true, false, ◌&&◌, cond, and-eq-true_iff}
use mathlib.Core.List.{List}
use mathlib.Core.Logic.{⊎_elim}
use mathlib.Core.Option.{none}
use native.Mathlib.Omega.{arith}
use borrow.Author.Tests.{leb-true, ne_eqb}
use lib.Dec.{leb, eqb}
use lib.IntN.{ℤ}
use lib.ListN.{length, replicate}
use Rattle.wire.proofs.Laws.{kept_first, unlike}
use Rattle.tables.specs.Section2.{is_default, table_count, tables_in, section2_right}
use Rattle.tables.proofs.Laws.{length_tables, section2_right_lem}
use Rattle.samples.specs.Differences.{differences}
use Rattle.std.specs.Prelude.{Err}
use Rattle.refusals.specs.declared.Refusal.{Refusal}
use Rattle.refusals.specs.Refusals.{number_of}
use Rattle.encode.specs.declared.Coded.{Coded}
use Rattle.encode.specs.Encoding.{tables_given, asked_right, tables_given_right, work_right, asked_refusal, work_searched, LeadEncoding, refused, answered}
use Rattle.encode.specs.InnerEncode.{coded_in, Written, cleared_if, held_for}
use Rattle.encode.proofs.Found.{refused_coded, refused_next}

-- ---- Section 2 as it is given

-- how many tables Section 2's data mean
pub count_default : (s : List ℕ) → is_default s 0 ≡ true → 1 ≡ length (tables_in s 0)
unfolding tables_in
count_default s d = rw d

pub count_own : (s : List ℕ) → is_default s 0 ≡ false → section2_right 0 s 0 ≡ true → (table_count s 0 ≡ length (tables_in s 0)) × (table_count s 0 ≤ 8)
unfolding tables_in
count_own s d right =
    (rw d (sym (length_tables s 2 (table_count s 0))), ⊎_elim (λ y. unlike cc) (λ t. t.most) (section2_right_lem 0 s 0 right))

-- ---- 17, 7 and 11 for the work space

asked_most : (count order : ℕ) → asked_right count order ≡ true → count ≤ 65536
unfolding asked_right
asked_most count order h =
    let a = (and-eq-true_iff (leb 1 count) (leb count 65536 && leb order 2)).0 h in
    leb-true count 65536 ((and-eq-true_iff (leb count 65536) (leb order 2)).0 a.1).0

-- nothing is refused before the search
pub asked_none : (s2 : List ℕ) (count order work : ℕ) → asked_refusal s2 count order work ≡ 0
    → (count ≤ 65536) × (tables_given_right s2 ≡ true) × (count * length (tables_given s2) ≤ work)
unfolding asked_refusal work_right
asked_none s2 count order work z =
    let enough = leb (count * length (tables_given s2)) work in
    let p = kept_first (asked_right count order) 16 _ z in
    let q = kept_first (tables_given_right s2) 6 _ p.1 in
    let w = kept_first enough 10 0 q.1 in
    (asked_most count order p.0, q.0, leb-true (count * length (tables_given s2)) work w.0)

-- ---- what encoding answers

-- the work space where there are tables
pub cleared_some : (work : List ℕ) (n : ℕ) → (n ≡ 0 → ⊥) → replicate (length work) 0 ≡ cleared_if n work
cleared_some work zero h = absurd (h refl)
cleared_some work (suc n) h = refl

pub cleared_after : (s2 work : List ℕ) (held : ℕ) → held ≡ held_for (length s2) → cleared_if held work ≡ work_searched s2 work
unfolding work_searched
cleared_after s2 work held e = rw e (go (length s2))
  where
    go : (n : ℕ) → cleared_if (held_for n) work ≡ cond (eqb n 0) work (replicate (length work) 0)
    go zero = refl
    go (suc n) = rw (ne_eqb (suc n) 0 (λ e. absurd (omega arith)))

module _ (s2 : List ℕ) (xs : List ℤ) (order : ℕ) (work out : List ℕ) where
  pub encoded_refused : (e : Refusal) → number_of e ≡ asked_refusal s2 (length xs) order (length work)
      → LeadEncoding s2 xs order work out (coded_in (Err e)) work out
  encoded_refused e h = let m = refused_next e in rw (refused_coded e none, m.1) (refused m.0 (sym h ∙ m.1))

  pub encoded_answered : (r : Coded) (work' out' : List ℕ) (held : ℕ) → asked_refusal s2 (length xs) order (length work) ≡ 0
      → Written (tables_given s2) (differences order xs) out r out' → held ≡ held_for (length s2) → work' ≡ cleared_if held work
      → LeadEncoding s2 xs order work out r work' out'
  encoded_answered r work' out' held e w h cleared = rw (cleared, cleared_after s2 work held h, w.2, w.3) (answered w.0 e w.1)
