-- Any two outcomes of encoding a lead are equal: the answer, the work space and the output. Assumes nothing.
use Prim.Native.Nat.{ℕ, suc}
use mathlib.Core.Path.{◌≡◌, refl, ap, sym, ◌∙◌}
use mathlib.Core.List.{List}
use mathlib.Core.Option.{Option, none, some}
use native.Mathlib.Omega.{arith}
use lib.IntN.{ℤ}
use lib.ListN.{length}
use Rattle.tables.specs.declared.Structure.{Structure}
use Rattle.shortest.proofs.Bridge.{unique}
use Rattle.shortest.proofs.Existence.{shortest_some}
use Rattle.encode.specs.declared.Coded.{Coded}
use Rattle.encode.specs.Encoding.{SearchFinds, found_refusal, coded_as, out_as, LeadEncoding, refused, answered}

-- one thing at most is found
pub found_unique : (tables : List (List Structure)) (vs : List ℤ) (f g : Option (List ℕ)) → SearchFinds tables vs f → SearchFinds tables vs g → f ≡ g
found_unique tables vs none none F G = refl
found_unique tables vs none (some bs) F G = absurd (shortest_some tables vs bs G F)
found_unique tables vs (some bs) none F G = absurd (shortest_some tables vs bs F G)
found_unique tables vs (some bs) (some cs) F G = ap some (unique tables vs bs cs F G)

pub encoded_unique : {s2 : List ℕ} {xs : List ℤ} {order : ℕ} {work out : List ℕ} {a b : Coded} {w v o p : List ℕ}
    → LeadEncoding s2 xs order work out a w o → LeadEncoding s2 xs order work out b v p → (a ≡ b) × (w ≡ v) × (o ≡ p)
encoded_unique (refused n e) (refused m f) =
    let q : n ≡ m = omega (arith, sym e ∙ f) in
    (ap (λ (k : ℕ). coded_as (suc k) none) q, refl, refl)
encoded_unique (refused n e) (answered g f G) = absurd (omega (arith, sym e ∙ f))
encoded_unique (answered f e F) (refused n g) = absurd (omega (arith, sym e ∙ g))
encoded_unique {out = out} (answered f e F) (answered g h G) =
    let q = found_unique _ _ f g F G in (
      ap (λ (x : Option (List ℕ)). coded_as (found_refusal (length out) x) x) q,
      refl,
      ap (λ (x : Option (List ℕ)). out_as (found_refusal (length out) x) x out) q,
    )
