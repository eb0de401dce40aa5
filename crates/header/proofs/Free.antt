-- That no byte of a part is NUL, as `no_nul` finds it. Assumes nothing.
use Prim.Native.Nat.{ℕ, ◌-◌, ◌≤◌, ◌<◌}
use mathlib.Core.Path.{◌≡◌, refl, sym, ◌∙◌}
use mathlib.Core.Bool.{Bool, false, not}
use mathlib.Core.List.{List, [], ◌∷◌}
use native.Mathlib.Omega.{arith}
use Rattle.std.proofs.lemmas.Bool.Decides.{nat_tests}
use lib.Dec.{eqb}
use lib.ListN.{length, get_or-eq_default}
use Rattle.std.specs.List.{list_any}
use Rattle.wire.specs.Numbers.{byte_at, part}
use Rattle.wire.specs.RuleWords.{all_in, every}
use Rattle.wire.proofs.Laws.{all_at}
use Rattle.wire.proofs.Every.{all_every}

abbrev pub no_nul : List ℕ → ℕ → Bool
no_nul s i = not (eqb (byte_at s i) 0)

-- no element passes a test: every one fails it
every_other : (p : ℕ → Bool) (l : List ℕ) → not (list_any p l) ≡ every (λ x. not (p x)) l
unfolding every
every_other p [] = refl
every_other p (x ∷ l) = grind (arith, nat_tests, every_other p l)

-- where all bytes are there, they are looked through
pub looked : (s : List ℕ) (from to : ℕ) → to ≤ length s → not (list_any (λ b. eqb b 0) (part s from to)) ≡ all_in from to (no_nul s)
looked s from to h = every_other (λ b. eqb b 0) (part s from to) ∙ sym (all_every (λ b. not (eqb b 0)) s from to h)

-- a byte that is not there is NUL
pub missing : (s : List ℕ) (from to : ℕ) → from < to → length s < to → all_in from to (no_nul s) ≡ false
missing s from to k h =
    let last : byte_at s (to - 1) ≡ 0 = get_or-eq_default s 0 (omega arith) in
    grind (arith, nat_tests, all_at (no_nul s) from to)
