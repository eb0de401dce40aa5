-- Laws that the proofs of this crate cite, and that a walk shows every field of Section 1. Assumes nothing.
use Prim.Native.Nat.{ℕ, zero, suc, ◌+◌, ◌-◌, ◌≤◌}
use mathlib.Core.Path.{◌≡◌, refl}
use mathlib.Core.Bool.{true, false}
use mathlib.Core.List.{List, [], map}
use native.Mathlib.Omega.{arith}
use Rattle.std.proofs.lemmas.Bool.Decides.{nat_tests}
use lib.ListN.{length}
use Rattle.std.specs.Prelude.{Option, Some, None, Ok}
use Rattle.wire.specs.RuleWords.{all_in}
use Rattle.wire.proofs.Laws.{all_at}
use Rattle.header.specs.declared.Field.{Field}
use Rattle.header.specs.Fields.{step_at, fields_from}
use Rattle.header.proofs.Laws.{step_past, step_found, fields_step}
use Rattle.pointers.specs.Pointers.{count_of, end_of, section_of, data_at}
use Rattle.record.specs.RecordRules.{section0_right, place_right, placed_right, all_placed_right}
use Rattle.record.specs.Opening.{open_refusal, opens}
use Rattle.fields.specs.declared.Part.{Part}
use Rattle.fields.specs.Lookup.{walk_place, part_bytes}
use Rattle.walker.specs.Walk.{shown_by, shown_field, WalkShows}

-- Section 1 of an opened record ends within it: Section 0 has a pointer to it, and the section's place is right
section_inside : (r : List ℕ) → opens r ≡ true → end_of r 1 ≤ length r
unfolding opens open_refusal section0_right all_placed_right placed_right place_right
section_inside r h =
    let counted : 12 ≤ count_of r = grind (arith, nat_tests) in
    let every : all_in 1 (count_of r) (placed_right r) ≡ true = grind (arith, nat_tests) in
    let placed = all_at (placed_right r) 1 (count_of r) every 1 (omega arith) (omega arith) in
    grind (arith, nat_tests, placed)

-- so the place of a walk lies within the record
pub place_inside : (r : List ℕ) (p : Part) → walk_place r ≡ Ok p → p.start + p.size ≤ length r
unfolding walk_place
place_inside r p h = grind (arith, nat_tests, section_inside)

-- step after step a walker shows the fields from its place on, and then the end
shown_from : (n : ℕ) (s : List ℕ) (at : ℕ) → length s - at ≤ n → shown_by n s at ≡ map (shown_field s) (fields_from s at)
unfolding shown_by
shown_from zero s at h = rw (fields_step s at, step_past s at (omega arith))
shown_from (suc n) s at h = go (λ e. shown_from n s e) (step_at s at) refl
  where
    go : ((e : ℕ) → length s - e ≤ n → shown_by n s e ≡ map (shown_field s) (fields_from s e)) → (p : Option Field) → step_at s at ≡ p
        → shown_by (suc n) s at ≡ map (shown_field s) (fields_from s at)
    go later None e = rw (fields_step s at, e)
    go later (Some f) e =
        let w = step_found s at f e in
        rw (fields_step s at, e, later f.end (omega arith))

-- from the start of an opened record these are the fields of Section 1, in their order, none left out
shows_all : (n : ℕ) (r : List ℕ) → opens r ≡ true → length (section_of r 1) ≤ n
    → shown_by n (part_bytes r (walk_place r)) data_at ≡ map (shown_field (section_of r 1)) (fields_from (section_of r 1) data_at)
unfolding walk_place section_of
shows_all n r o h = rw o (shown_from n (section_of r 1) data_at (omega arith))

-- a walk that is refused is at its end
refused_end : (r : List ℕ) → opens r ≡ false → step_at (part_bytes r (walk_place r)) data_at ≡ None
unfolding walk_place
refused_end r o = rw o (step_past [] data_at (omega arith))

pub walk_shows : WalkShows
walk_shows = record { all = shows_all; refused = refused_end }
