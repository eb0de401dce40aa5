-- The entry is shown, its place in a is found, and both parts are copied one behind the other.
use Prim.Native.Nat.{◌+◌, ◌-◌, ◌≤◌}
use mathlib.Core.Path.{◌≡◌, ap, ◌∙◌}
use native.Mathlib.Omega.{arith}
use lib.ListN.{length}
use Rattle.wire.proofs.Places.{part_length}
use Rattle.index.specs.Order.{before}
use Rattle.index.specs.InnerSteps.{seen}
use Rattle.index.proofs.Walk.{Shown, shown_at_lem, whole_entry}
use Rattle.merging.specs.InnerMerging.{Next}
use Rattle.merging.proofs.Copied.{put_two}
use Rattle.merging.proofs.copy_next.Goals as goal
use Rattle.merging.proofs.copy_next.Goals.{After-entry_at-f, After-part_of, After-part_of-2, After-place_for-place, After-put_bytes}

pub entry_at-f-requires : goal.entry_at-f-requires
entry_at-f-requires c = let p = c.requires in whole_entry _ _ p.1 p.2

-- the entry that is there
there : (c : After-entry_at-f) → Shown c.args.b.now c.args.from.b c.entry_at-f.result
there c = shown_at_lem _ _ _ c.entry_at-f.ensures (let p = c.requires in whole_entry _ _ p.1 p.2)

-- both places afterwards
reached : (c : After-place_for-place) → let a = c.args in
    Shown a.b.now a.from.b c.entry_at-f.result → Next a.a.now a.from.a a.b.now a.from.b (record { a = c.place_for-place.result; b = c.entry_at-f.result.next })
unfolding before
reached c w =
    let a = c.args in
    let f = seen a.b.now c.entry_at-f.result in
    record {
      entry = f;
      passed = rw (c.identifier_of.ensures, c.date_of.ensures) at c.place_for-place.ensures;
      entries = w.entries;
      size = w.size;
      within = w.within;
    }

-- the first part ends at the place in a, and both have room
first_part : (c : After-part_of) → let a = c.args in
    Next a.a.now a.from.a a.b.now a.from.b (record { a = c.place_for-place.result; b = c.entry_at-f.result.next })
    → (length c.part_of.result.now ≡ c.place_for-place.result - a.from.a) × (a.from.a ≤ c.place_for-place.result)
first_part c n =
    let k = n.passed in
    (ap length c.part_of.ensures ∙ part_length _ _ _ k.within, omega (arith, k.place))

-- and the second part is the entry
second_part : (c : After-part_of-2) → let a = c.args in
    Next a.a.now a.from.a a.b.now a.from.b (record { a = c.place_for-place.result; b = c.entry_at-f.result.next })
    → length c.part_of-2.result.now ≡ c.entry_at-f.result.next - c.args.from.b
second_part c n = ap length c.part_of-2.ensures ∙ part_length _ _ _ n.within

pub returns : goal.returns
returns c =
    let places = goal.at.returns c in
    let a = c.args in
    let n = reached places.After-place_for-place (there places.After-entry_at-f) in
    let p = c.part_of.result.now in
    let q = c.part_of-2.result.now in
    let k = first_part places.After-part_of n in
    let first : c.place_for-place.result + a.from.b ≡ a.from.a + a.from.b + length p = omega (arith, k.0, k.1) in
    let end : c.place_for-place.result + c.entry_at-f.result.next ≡ a.from.a + a.from.b + length p + length q =
    omega (arith, k.0, k.1, second_part places.After-part_of-2 n, n.size) in
    let u = c.requires in
    let fits : a.from.a + a.from.b + length p ≤ length a.out.now = omega (arith, k.0, k.1, n.passed.within, u.2, u.3) in
    record { reached = n; bytes = c.put_bytes-2.ensures ∙ rw (first, c.put_bytes.ensures, end, ← c.part_of.ensures, ← c.part_of-2.ensures) (put_two a.out.now p q (a.from.a + a.from.b) fits) }
