-- Any two outcomes of writing a record are equal: the answer, the work space and the output. Assumes nothing.
use Prim.Native.Nat.{ℕ, suc}
use mathlib.Core.Path.{◌≡◌, refl, ap, sym, ◌∙◌}
use mathlib.Core.List.{List}
use mathlib.Core.Option.{Option, none}
use native.Mathlib.Omega.{arith}
use lib.ListN.{length}
use Rattle.compose.specs.declared.Written.{Written}
use Rattle.compose.specs.Writing.{Job, packed_all, record_refusal, written_as, record_out, RecordWriting, refused, answered}
use Rattle.compose.proofs.Streams.{founds_unique}

pub wrote_unique : {j : Job} {work out : List ℕ} {a b : Written} {w v o p : List ℕ} → RecordWriting j work out a w o → RecordWriting j work out b v p
    → (a ≡ b) × (w ≡ v) × (o ≡ p)
wrote_unique {j = j} (refused n e) (refused m f) =
    let q : n ≡ m = omega (arith, sym e ∙ f) in
    (ap (λ (k : ℕ). written_as j (suc k) none) q, refl, refl)
wrote_unique (refused n e) (answered g f G) = absurd (omega (arith, sym e ∙ f))
wrote_unique (answered f e F) (refused n g) = absurd (omega (arith, sym e ∙ g))
wrote_unique {j = j} {out = out} (answered f e F) (answered g h G) =
    let q = ap packed_all (founds_unique F G) in (
      ap (λ (x : Option (List (List ℕ))). written_as j (record_refusal j (length out) x) x) q,
      refl,
      ap (λ (x : Option (List (List ℕ))). record_out j (record_refusal j (length out) x) x out) q,
    )
