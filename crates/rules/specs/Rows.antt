-- A row's rule asked alone, as one mending a record asks them one by one. The rows are 01's (Refusal numbers, 1 to 9); the call is ours.
use Rattle.std.specs.Prelude.{ℕ, Bool, true, cond, List, eqb}
use Rattle.record.specs.RecordRules.{length_right, record_check_right, section0_right, all_placed_right, checks_right, fields_right}
use Rattle.rules.specs.LeadRules.{tables_right, sections3_to6_right, agrees}

-- whether the rule of a row from 1 to 9 is kept: 01's row for bytes that keep every row before it; of other bytes the answer says
-- nothing of a record. Row 0 and rows over 9 answer true: none of them is a rule on a record's bytes alone
unfoldable pub row_kept : List ℕ → ℕ → Bool
row_kept r row =
    cond (eqb row 1) (length_right r)
    (cond (eqb row 2) (record_check_right r)
    (cond (eqb row 3) (section0_right r)
    (cond (eqb row 4) (all_placed_right r)
    (cond (eqb row 5) (checks_right r)
    (cond (eqb row 6) (fields_right r)
    (cond (eqb row 7) (tables_right r) (cond (eqb row 8) (sections3_to6_right r) (cond (eqb row 9) (agrees r) true))))))))
