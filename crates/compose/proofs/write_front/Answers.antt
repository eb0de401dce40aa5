-- The pointers and Sections 1 to 3 are written before Section 6; then the size and the check.
use Prim.Native.Nat.{ℕ, ◌+◌, ◌-◌, ◌*◌, ◌≤◌}
use mathlib.Core.Path.{◌≡◌, refl, sym, ap, ◌∙◌}
use mathlib.Core.List.{List, [], ◌++◌}
use native.Mathlib.Omega.{arith}
use borrow.Rule.Slice.PartMut.{put_mid}
use lib.ListN.{length, take, drop}
use Rattle.layout.specs.Layout.{section_length, section2_size, leads_data}
use Rattle.layout.proofs.Filled.{Filled, filled_from}
use Rattle.layout.proofs.Laws.{length_leads_data}
use Rattle.layout.proofs.Record.{record_put}
use Rattle.compose.specs.InnerJob.{front_size}
use Rattle.compose.proofs.Lengths.{next_written}
use Rattle.compose.proofs.write_front.Goals as goal
use Rattle.compose.proofs.write_front.Goals.{After-size_for-size3, After-write_pointers, After-write_sections}

-- where Section 6 begins
place : (count1 count2 leads size1 size2 size3 : ℕ) → size1 ≡ section_length count1 → size2 ≡ section2_size count2
    → size3 ≡ section_length (2 + 9 * leads) → 142 + size1 + size2 + size3 ≡ front_size count1 count2 leads
place count1 count2 leads size1 size2 size3 a b d = omega arith

-- the pointers are written
pointers : (l w : List ℕ) → 142 ≤ length l → length w ≡ length (take (142 - 6) (drop 6 l))
    → Filled l 6 ([] ++ w) 142 (put_mid 6 (142 - 6) l w) × (length (put_mid 6 (142 - 6) l w) ≡ length l)
pointers l w h n = next_written w 142 (filled_from l 6 (omega arith), refl) (omega arith) h n

-- and Sections 1 to 3
two : (c : After-write_sections) → let l = c.args.out.now in
    let at6 = 142 + c.size_for-size1.result + c.given_size-size2.result + c.size_for-size3.result in
    let w0 = c.write_pointers.new.part in
    let w1 = c.write_sections.new.part in
    let x = put_mid 142 (at6 - 142) (put_mid 6 136 l w0) w1 in
    (at6 ≤ length l) × Filled l 6 (([] ++ w0) ++ w1) at6 x × (length x ≡ length l)
two c =
    let at6 = 142 + c.size_for-size1.result + c.given_size-size2.result + c.size_for-size3.result in
    let h : at6 ≤ length c.args.out.now =
    omega (arith, place _ _ _ _ _ _ c.size_for-size1.ensures c.given_size-size2.ensures c.size_for-size3.ensures, c.requires.2) in
    let f =
    next_written c.write_sections.new.part at6
    (pointers c.args.out.now c.write_pointers.new.part (omega arith) c.write_pointers.auto.part) (omega arith) h c.write_sections.auto.part in
    (h, f.0, f.1)

pub returns : goal.returns
returns c =
    let a = c.args in
    let p = c.requires.0 in
    let w = two (goal.at.returns c).After-write_sections in
    let n3 = length_leads_data a.job.now.head.flags a.job.now.firsts.now a.job.now.counts.now a.job.now.ids.now p.0 p.1 in
    let at6 = 142 + c.size_for-size1.result + c.given_size-size2.result + c.size_for-size3.result in
    let e = place _ _ _ _ _ _ c.size_for-size1.ensures c.given_size-size2.ensures c.size_for-size3.ensures in
    λ data6 h.
    record_put a.job.now.head.version a.job.now.section1.now a.job.now.section2.now
    (leads_data a.job.now.head.flags a.job.now.firsts.now a.job.now.counts.now a.job.now.ids.now) data6
    a.out.now (put_mid 142 (at6 - 142) (put_mid 6 136 a.out.now c.write_pointers.new.part) c.write_sections.new.part)
    c.seal_record.new.out c.write_pointers.new.part c.write_sections.new.part
    c.size_for-size1.result c.given_size-size2.result c.size_for-size3.result
    c.size_for-size1.ensures c.given_size-size2.ensures (c.size_for-size3.ensures ∙ ap section_length (sym n3)) w.0
    w.1 c.write_pointers.ensures c.write_sections.ensures (rw e h) c.seal_record.ensures
