-- Opening a record (01, The record; 01, Refusal numbers, the paragraph under the table).
use Rattle.std.specs.Prelude.{ℕ, ◌*◌, Bool, cond, List, ◌++◌, eqb, drop}
use Rattle.wire.specs.RuleWords.{unless}
use Rattle.pointers.specs.Pointers.{count_of, pointers_from}
use Rattle.record.specs.RecordRules.{length_right, record_check_right, section0_right, all_placed_right, checks_right, fields_right}

-- the smallest of 1 to 6 whose rule is broken, and 0 where none is
unfoldable pub open_refusal : List ℕ → ℕ
open_refusal r =
    unless (length_right r) 1
    (unless (record_check_right r) 2
    (unless (section0_right r) 3 (unless (all_placed_right r) 4 (unless (checks_right r) 5 (unless (fields_right r) 6 0)))))

-- a record is accepted where no rule is broken
unfoldable pub opens : List ℕ → Bool
opens r = eqb (open_refusal r) 0

-- the count answered: how many pointers there are, 0 on a refusal. It counts pointers, since an element of this output is a pointer,
-- which takes three of the lent numbers
unfoldable pub open_count : List ℕ → ℕ
open_count r = cond (opens r) (count_of r) 0

-- the lent numbers afterwards: the ID, the length and the index of each pointer counted, three numbers a pointer, and the rest as it was
unfoldable pub open_numbers : List ℕ → List ℕ → List ℕ
open_numbers r lent = pointers_from r 0 (open_count r) ++ drop (3 * open_count r) lent
