use Prim.Native.Nat.{ℕ, ◌-◌, ◌≤◌}
use mathlib.Core.Path.{◌≡◌, refl}
use mathlib.Core.Bool.{false}
use borrow.Author.Rules.{rules}
use borrow.Author.Tests.{tests}
use Rattle.std.proofs.lemmas.Iterator.{YieldsList-from_range, first_from_find}
use Rattle.entries.specs.Section4.{qrs_type, zone_end}
use Rattle.beats.specs.Sums.{in_zone}
use Rattle.beats.proofs.Laws.{zone_found}
use Rattle.beats.proofs.zone_for.Goals as goal

pub returns : goal.returns
returns c =
    let a = c.args in
    let s = a.s.now in
    let first = first_from_find _ _ c.find.result (λ j. (qrs_type s j ≡ 0) × (a.n ≤ zone_end s j)) (λ j. (m : ℕ) → a.n ≤ m → in_zone s j m ≡ false) c.find.ensures.ran (YieldsList-from_range a.k a.zones (a.zones - a.k) refl refl) (λ x q k. search (rules, tests)) (λ x q k. search (rules, tests)) in
    rw c.unwrap_or.ensures (zone_found s a.zones a.k a.n c.find.result c.requires first)
