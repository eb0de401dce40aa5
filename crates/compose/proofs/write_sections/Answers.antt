-- Sections 1 to 3 are written one behind another.
use Prim.Native.Nat.{ℕ, ◌+◌, ◌-◌, ◌*◌}
use mathlib.Core.Path.{◌≡◌}
use mathlib.Core.List.{[], ◌++◌}
use native.Mathlib.Omega.{arith}
use native.Mathlib.Nat.{le-add_right}
use borrow.Rule.Slice.PartMut.{put_mid}
use lib.ListN.{length, drop}
use Rattle.layout.specs.Layout.{section_length, section2_size}
use Rattle.layout.proofs.Filled.{Filled, filled_three}
use Rattle.compose.specs.InnerJob.{front_size}
use Rattle.compose.proofs.Lengths.{front_written, next_written}
use Rattle.compose.proofs.write_sections.Goals as goal
use Rattle.compose.proofs.write_sections.Goals.{After-write_given, After-write_leads, After-write_section}

-- Section 3 ends where the part does
sum : (count1 count2 leads at2 given part : ℕ) → 142 + part ≡ front_size count1 count2 leads → at2 ≡ section_length count1
    → given ≡ section2_size count2 → at2 + given + section_length (2 + 9 * leads) ≡ part
sum count1 count2 leads at2 given part p a g = omega arith

-- and Section 3
three : (c : After-write_leads) → let l = c.args.part.now in
    let at2 = c.size_for-at2.result in
    let at3 = at2 + c.given_size.result in
    let w1 = c.write_section.new.part in
    let w2 = c.write_given.new.part in
    let w3 = c.write_leads.new.part in
    let x = put_mid at2 (at3 - at2) (w1 ++ drop at2 l) w2 in
    Filled l 0 ((([] ++ w1) ++ w2) ++ w3) (length x) (put_mid at3 (length x - at3) x w3)
    × (length x ≡ length l) × (length (put_mid at3 (length x - at3) x w3) ≡ length l)
three c =
    let s = sum _ _ _ _ _ _ c.requires.2 c.size_for-at2.ensures c.given_size.ensures in
    let l = c.args.part.now in
    let at2 = c.size_for-at2.result in
    let at3 = at2 + c.given_size.result in
    let w1 = c.write_section.new.part in
    let w2 = c.write_given.new.part in
    let x = put_mid at2 (at3 - at2) (w1 ++ drop at2 l) w2 in
    let f =
    next_written w2 at3 (front_written l w1 at2 (omega (arith, s)) c.write_section.auto.part) (le-add_right _ _) (omega (arith, s))
    c.write_given.auto.part in
    let same : length x ≡ length l = f.1 in
    let g = next_written c.write_leads.new.part (length x) f (omega (arith, s, same)) (omega (arith, same)) c.write_leads.auto.part in
    (g.0, same, g.1)

pub returns : goal.returns
returns c =
    let w = three (goal.at.returns c).After-write_leads in
    filled_three _ _ _ w.0 w.1 c.write_section.ensures c.write_given.ensures c.write_leads.ensures
