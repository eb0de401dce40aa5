-- Laws that the proofs of this crate and of those above it cite. Assumes nothing.
use Prim.Native.Nat.{ℕ, zero, suc, ◌+◌, ◌-◌, ◌≤◌, ◌<◌}
use mathlib.Core.Path.{◌≡◌, refl, sym, ap, ◌∙◌}
use mathlib.Core.Bool.{and-false}
use mathlib.Core.List.{List, [], ◌∷◌}
use native.Mathlib.Decide.{ℕ_discrete}
use native.Mathlib.Omega.{arith}
use Rattle.std.proofs.lemmas.Bool.Decides.{nat_tests}
use lib.ListN.{length}
use borrow.Author.Tests.{lt-leb, eq-eqb, ne_eqb}
use Rattle.std.specs.Prelude.{Option, Some, None}
use Rattle.wire.specs.Numbers.{number_at}
use Rattle.wire.proofs.Laws.{unlike}
use Rattle.header.specs.declared.Field.{Field}
use Rattle.header.specs.Fields.{is_field, field_at, step_at, onward, walk, fields_from, fields_end, with_tag, occurring}

-- a field whose bytes start three behind a place and end within the list
pub record Whole (s : List ℕ) (at : ℕ) (f : Field) : Type 0 where
  pub place : f.start ≡ at + 3
  pub order : f.start ≤ f.end
  pub end : f.end ≤ length s

-- a field whose bytes start three or more behind a place and end within the list
pub record Within (s : List ℕ) (at : ℕ) (f : Field) : Type 0 where
  pub behind : at + 3 ≤ f.start
  pub order : f.start ≤ f.end
  pub end : f.end ≤ length s

-- the end is no field
no_field : {X : Type 0} {f : Field} → None ≡ Some f → X
no_field h = unlike cc

-- where the bytes end before the field would, a step shows none
pub step_past : (s : List ℕ) (at : ℕ) → length s < at + 3 + number_at 2 s (at + 1) → step_at s at ≡ None
unfolding step_at is_field
step_past s at h = simp (lt-leb (at + 3 + number_at 2 s (at + 1)) (length s) h, and-false)

-- so what it shows is whole
pub step_found : (s : List ℕ) (at : ℕ) (f : Field) → step_at s at ≡ Some f → Whole s at f
unfolding step_at field_at
step_found s at f h = grind (arith, nat_tests, step_past)

-- walks that agree behind the field that a step shows agree
onward_same : (l m : ℕ → List Field) (r : Option Field) → ((f : Field) → r ≡ Some f → l f.end ≡ m f.end) → onward l r ≡ onward m r
onward_same l m None h = refl
onward_same l m (Some f) h = ap (λ (k : List Field). f ∷ k) (h f refl)

-- one step more than there are bytes left finds nothing more
walk_enough : (n : ℕ) (s : List ℕ) (at : ℕ) → length s - at ≤ n → walk (suc n) s at ≡ walk n s at
unfolding walk
walk_enough zero s at h = rw (step_past s at (omega arith))
walk_enough (suc n) s at h =
    onward_same (walk (suc n) s) (walk n s) (step_at s at)
    (λ f e. let w = step_found s at f e in walk_enough n s f.end (omega arith))

-- the fields from a place on: the one that the step shows, then those from its end on
pub fields_step : (s : List ℕ) (at : ℕ) → fields_from s at ≡ onward (fields_from s) (step_at s at)
unfolding fields_from walk
fields_step s at = sym (walk_enough (length s) s at (omega arith))

-- induction along the walk
module _ (s : List ℕ) (P : ℕ → Type 0) (turn : (at : ℕ) → ((f : Field) → step_at s at ≡ Some f → P f.end) → P at) where
  along_left : (n at : ℕ) → length s - at ≤ n → P at
  along_left zero at h = turn at (λ f e. let w = step_found s at f e in absurd (omega arith))
  along_left (suc n) at h = turn at (λ f e. let w = step_found s at f e in along_left n f.end (omega arith))

  pub along : (at : ℕ) → P at
  along at = along_left (length s) at (omega arith)

-- where the step shows the end, the fields end there
pub end_here : (s : List ℕ) (at : ℕ) → step_at s at ≡ None → fields_end at (fields_from s at) ≡ at
unfolding fields_end
end_here s at e = rw (fields_step s at, e)

-- where it shows a field, they end where those behind it do
pub end_later : (s : List ℕ) (at : ℕ) (f : Field) → step_at s at ≡ Some f
    → fields_end at (fields_from s at) ≡ fields_end f.end (fields_from s f.end)
unfolding fields_end
end_later s at f e = rw (fields_step s at, e)

-- where the step shows the end, no field has the tag
pub with_tag_none : (t : ℕ) (s : List ℕ) (at : ℕ) → step_at s at ≡ None → with_tag t (fields_from s at) ≡ []
unfolding with_tag
with_tag_none t s at e = rw (fields_step s at, e)

-- where it shows a field with the tag, that is the first
pub with_tag_this : (t : ℕ) (s : List ℕ) (at : ℕ) (f : Field) → step_at s at ≡ Some f → f.tag ≡ t
    → with_tag t (fields_from s at) ≡ f ∷ with_tag t (fields_from s f.end)
unfolding with_tag
with_tag_this t s at f e h = rw (fields_step s at, e, eq-eqb f.tag t h)

-- where it shows another, they are those behind it
pub with_tag_other : (t : ℕ) (s : List ℕ) (at : ℕ) (f : Field) → step_at s at ≡ Some f → (f.tag ≡ t → ⊥)
    → with_tag t (fields_from s at) ≡ with_tag t (fields_from s f.end)
unfolding with_tag
with_tag_other t s at f e h = rw (fields_step s at, e, ne_eqb f.tag t h)

-- so the first with the tag is none,
pub first_none_here : (t : ℕ) (s : List ℕ) (at : ℕ) → step_at s at ≡ None → occurring 1 (with_tag t (fields_from s at)) ≡ None
unfolding occurring
first_none_here t s at e = rw (with_tag_none t s at e)

-- the field that the step shows,
pub first_this : (t : ℕ) (s : List ℕ) (at : ℕ) (f : Field) → step_at s at ≡ Some f → f.tag ≡ t
    → occurring 1 (with_tag t (fields_from s at)) ≡ Some f
unfolding occurring
first_this t s at f e h = rw (with_tag_this t s at f e h)

-- or the first behind it
pub first_later : (t : ℕ) (s : List ℕ) (at : ℕ) (f : Field) → step_at s at ≡ Some f → (f.tag ≡ t → ⊥)
    → occurring 1 (with_tag t (fields_from s at)) ≡ occurring 1 (with_tag t (fields_from s f.end))
first_later t s at f e h = ap (occurring 1) (with_tag_other t s at f e h)

-- the fields with a tag from a place on: none; or one within the list, and then those from its end on
data Named (t : ℕ) (s : List ℕ) (at : ℕ) : Type 0 where
  none : with_tag t (fields_from s at) ≡ [] → Named t s at
  first : (f : Field) → Within s at f → with_tag t (fields_from s at) ≡ f ∷ with_tag t (fields_from s f.end) → Named t s at

with_tag_from : (t : ℕ) (s : List ℕ) (at : ℕ) → Named t s at
with_tag_from t s = along s (Named t s) turn
  where
    turn : (at : ℕ) → ((f : Field) → step_at s at ≡ Some f → Named t s f.end) → Named t s at
    turn at later = go (step_at s at) refl
      where
        skip : (f : Field) → Whole s at f → with_tag t (fields_from s at) ≡ with_tag t (fields_from s f.end) → Named t s f.end
            → Named t s at
        skip f w e (none h) = none (e ∙ h)
        skip f w e (first g v h) = first g (omega arith) (e ∙ h)

        pick : (f : Field) → step_at s at ≡ Some f → Whole s at f → Dec (f.tag ≡ t) → Named t s at
        pick f e w (yes q) = first f (omega arith) (with_tag_this t s at f e q)
        pick f e w (no q) = skip f w (with_tag_other t s at f e q) (later f e)

        go : (r : Option Field) → step_at s at ≡ r → Named t s at
        go None e = none (with_tag_none t s at e)
        go (Some f) e = pick f e (step_found s at f e) (ℕ_discrete f.tag t)

-- where there is no first, there is none
pub first_none : (l : List Field) → occurring 1 l ≡ None → l ≡ []
unfolding occurring
first_none [] h = refl
first_none (f ∷ l) h = no_field (sym h)

-- where there is a first with a tag, the others with it are those from its end on
pub first_found : (t : ℕ) (s : List ℕ) (at : ℕ) (f : Field) → occurring 1 (with_tag t (fields_from s at)) ≡ Some f
    → with_tag t (fields_from s at) ≡ f ∷ with_tag t (fields_from s f.end)
unfolding occurring
first_found t s at f h = go (with_tag_from t s at)
  where
    go : Named t s at → with_tag t (fields_from s at) ≡ f ∷ with_tag t (fields_from s f.end)
    go (none e) = no_field (rw e at h)
    go (first g w e) = let q = rw e at h in let same : g ≡ f = cc in rw same at e

-- of none there is no occurrence
pub occurring_none : (n : ℕ) → occurring n [] ≡ None
unfolding occurring
occurring_none zero = refl
occurring_none (suc n) = refl

-- an occurrence behind the first is one of the others, counted without it
pub occurring_later : (n : ℕ) (f : Field) (l : List Field) → 1 < n → occurring n (f ∷ l) ≡ occurring (n - 1) l
unfolding occurring
occurring_later n f l h = grind arith

-- a field that is found lies within the list
pub found_within : (n t : ℕ) (s : List ℕ) (at : ℕ) (f : Field) → occurring n (with_tag t (fields_from s at)) ≡ Some f → Within s at f
unfolding occurring
found_within zero t s at f h = no_field h
found_within (suc n) t s at f h = go n (with_tag_from t s at) h (found_within n t s)
  where
    go : (n : ℕ) → Named t s at → occurring (suc n) (with_tag t (fields_from s at)) ≡ Some f
        → ((e : ℕ) (f : Field) → occurring n (with_tag t (fields_from s e)) ≡ Some f → Within s e f) → Within s at f
    go n (none e) h later = no_field (rw e at h)
    go zero (first g w e) h later = let q = rw e at h in let same : g ≡ f = cc in rw same at w
    go (suc n) (first g w e) h later =
        let v = later g.end f (rw e at h) in
        omega arith

-- what a step of the walk says, for the loops that walk
pub ruleset steps = (step_found, end_here, end_later, first_none_here, first_this, first_later)

-- what a search says, for those that search on
pub ruleset firsts = (first_none, first_found, occurring_none, occurring_later)
