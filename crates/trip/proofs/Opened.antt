-- A written record opens, and its sections are those written. Assumes nothing.
use Prim.Native.Nat.{ℕ, suc, ◌≤◌, ◌<◌}
use mathlib.Core.Path.{◌≡◌, ◌∙◌}
use mathlib.Core.Bool.{true, false}
use mathlib.Core.List.{List}
use native.Mathlib.Omega.{arith}
use lib.Dec.{eqb}
use lib.ListN.{length}
use Rattle.header.specs.Header.{section1_right}
use Rattle.header.proofs.Moved.{section1_moved}
use Rattle.pointers.specs.Pointers.{present}
use Rattle.record.specs.Opening.{open_refusal}
use Rattle.layout.specs.Layout.{section2_bytes, record_bytes}
use Rattle.layout.proofs.Laws.{length_section2_bytes}
use Rattle.sections.specs.Sections.{Section, nth, Fit, four}
use Rattle.sections.proofs.Listed.{place_at}
use Rattle.sections.proofs.Pointed.{Pointed, pointed_present}
use Rattle.sections.proofs.Frame.{pointed_at}
use Rattle.sections.proofs.Opened.{opens_from}
use Rattle.sections.proofs.Written.{as_sections, four_fit}
use Rattle.trip.proofs.Placed.{section_holds, Placed, written_placed}

module _ (v : ℕ) (d1 d2 d3 d6 : List ℕ) (small : length (record_bytes v d1 d2 d3 d6) ≤ 1048576) where
  abbrev r : List ℕ
  r = record_bytes v d1 d2 d3 d6

  abbrev ss : List Section
  ss = four v d1 d2 d3 d6

  fit : Fit ss
  fit = four_fit v d1 d2 d3 d6 small

  -- each section is where its pointer says
  pointed : (j : ℕ) → j < 11 → Pointed r (suc j) (place_at 142 ss j) (nth ss j).id (nth ss j).bytes
  pointed j h = rw (as_sections v d1 d2 d3 d6) (pointed_at v v ss fit j h)

  pub section1_placed : Placed r 1 d1
  section1_placed = written_placed v (pointed 0 (omega arith))

  pub section2_placed : eqb (length d2) 0 ≡ false → Placed r 2 d2
  unfolding section2_bytes
  section2_placed e = written_placed v (rw e at (pointed 1 (omega arith)))

  pub section2_absent : eqb (length d2) 0 ≡ true → present r 2 ≡ false
  section2_absent e = pointed_present (pointed 1 (omega arith)) ∙ rw (length_section2_bytes v d2, e)

  pub section3_placed : Placed r 3 d3
  section3_placed = written_placed v (pointed 2 (omega arith))

  pub section6_placed : Placed r 6 d6
  section6_placed = written_placed v (pointed 5 (omega arith))

  -- the record opens
  pub opens_written : section1_right 0 d1 0 ≡ true → open_refusal r ≡ 0
  opens_written right =
      let kept = section1_moved (section_holds 1 v d1).moved right in
      rw (as_sections v d1 d2 d3 d6) (opens_from v v ss fit kept)
