-- A record shows the sections that it is laid out from (01, The record): it keeps rows 1 to 5, Section 0 has the version bytes given, and
-- each section is where its pointer says, byte for byte as it was given.
use Rattle.std.specs.Prelude.{ℕ, suc, ◌+◌, ◌<◌, ◌≡◌, true, not, List, eqb, length, take}
use Rattle.wire.specs.Numbers.{byte_at}
use Rattle.pointers.specs.Pointers.{count_of, id_of, index_of, present, start_of, section_of}
use Rattle.record.specs.RecordRules.{length_right, record_check_right, section0_right, all_placed_right, checks_right}
use Rattle.sections.specs.Sections.{Section, nth, total_length, pointer_count, section0_size, size_for}

pub record Shows (r : List ℕ) (version protocol : ℕ) (ss : List Section) : Type 0 where
  pub row1 : length_right r ≡ true
  pub row2 : record_check_right r ≡ true
  pub row3 : section0_right r ≡ true
  pub row4 : all_placed_right r ≡ true
  pub row5 : checks_right r ≡ true
  -- its length is 6 and the lengths of all sections
  pub size : length r ≡ size_for ss
  -- Section 0's version bytes are bytes 15 and 16
  pub versions : (byte_at r 14 ≡ version) × (byte_at r 15 ≡ protocol)
  -- Section 0's pointer is the first, so that the j-th section of the list has pointer 1 + j; up to the twelfth that is its ID
  pub count : count_of r ≡ pointer_count ss
  pub id : (j : ℕ) → j < length ss → id_of r (suc j) ≡ (nth ss j).id
  pub number : (j : ℕ) → j < 11 → (nth ss j).id ≡ suc j
  -- the section; it is present where it has bytes, and then begins where the one before it ends; an absent one has index 0
  pub section : (j : ℕ) → j < length ss → section_of r (suc j) ≡ (nth ss j).bytes
  pub there : (j : ℕ) → j < length ss → present r (suc j) ≡ not (eqb (length (nth ss j).bytes) 0)
  pub start : (j : ℕ) → j < length ss → 0 < length (nth ss j).bytes → start_of r (suc j) ≡ 6 + section0_size ss + total_length (take j ss)
  pub absent : (j : ℕ) → j < length ss → length (nth ss j).bytes ≡ 0 → index_of r (suc j) ≡ 0
