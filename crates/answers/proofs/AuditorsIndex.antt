-- The auditor's index: what adding gives and looking up shows, as it is proved in crates/afresh. Assumes nothing.
use mathlib.Core.Path.{◌≡◌, refl}
use mathlib.Core.Bool.{true}
use mathlib.Core.List.{[], ◌∷◌}
use Rattle.bits.specs.Bits.{high_first, number_after}
use Rattle.packing.specs.Packing.{packed_in, packed}
use Rattle.fields.specs.Identifier.{same}
use Rattle.fields.proofs.Identifiers.{same_equal, equal_same}
use Rattle.fields.proofs.Recording.{identifier_shown}
use Rattle.index.specs.Entry.{head_bits, entry_bytes}
use Rattle.index.specs.Order.{less, before, ordered_from, in_order}
use Rattle.afresh.proofs.Filed.{date_shown}
use Rattle.afresh.proofs.Afresh.{index_exactly, built_index, read_back, one_index, accepted_one, adding, adding_any, added_all, accepted_all, all_and_only, built_look_up}
use Rattle.answers.specs.AuditorsIndex.{twelve_leads, AuditorsIndex}

example : entry_bytes (twelve_leads (48 ∷ 48 ∷ 55 ∷ []) 2024 3 14) ≡ 12 ∷ 31 ∷ 160 ∷ 220 ∷ 24 ∷ 48 ∷ 48 ∷ 55 ∷ []
unfolding entry_bytes head_bits high_first packed packed_in number_after
example = refl

order_example : in_order (
    twelve_leads (48 ∷ 48 ∷ []) 2024 5 9
    ∷ twelve_leads (48 ∷ 48 ∷ 55 ∷ []) 2023 12 31
    ∷ twelve_leads (48 ∷ 48 ∷ 55 ∷ []) 2024 1 2
    ∷ twelve_leads (48 ∷ 48 ∷ 55 ∷ 48 ∷ []) 2024 1 1
    ∷ twelve_leads (55 ∷ []) 1999 1 1 ∷ []
    ) ≡ true
unfolding in_order ordered_from before less same
order_example = refl

pub auditors_index : AuditorsIndex
auditors_index = record {
  index_exactly = index_exactly;
  one_index = one_index;
  built_right = built_index;
  read_back = read_back;
  adding_one = adding;
  accepted_one = accepted_one;
  adding_all = added_all;
  accepted_all = accepted_all;
  adding_any = adding_any;
  all_and_only = all_and_only;
  looked_up = built_look_up;
  one_person = λ e id. (same_equal e.identifier id, λ h. rw h (equal_same id));
  identifier_filed = identifier_shown;
  date_filed = date_shown;
  example = example;
  order_example = order_example;
}
