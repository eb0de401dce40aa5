-- Every example of the table holds: by computation, but for P9, which speaks of every set of tables. Where a stream is the shortest, the
-- numbers behind it are its codes: for each, the place of its structure in the table that is current there. Assumes nothing.
use Prim.Native.Nat.{ℕ, ◌*◌, ◌≤◌}
use mathlib.Core.Path.{◌≡◌, refl, sym, ◌∙◌}
use mathlib.Core.Bool.{true}
use mathlib.Core.List.{List, [], ◌∷◌}
use mathlib.Core.Option.{none, some}
use native.Mathlib.Omega.{arith}
use lib.IntN.{pos}
use lib.ListN.{length, take}
use Rattle.wire.specs.Numbers.{number_at}
use Rattle.wire.specs.RuleWords.{each, all_in, every, ends_by}
use Rattle.header.specs.Fields.{is_field, field_at, step_at}
use Rattle.bits.specs.Bits.{high_first, low_first, bits_in, number_after, signed, begins}
use Rattle.tables.specs.Structures.{structure_at, structures_at, mode_right, structure_right, apart, prefix_free}
use Rattle.tables.specs.Default.{code_of, valued, ones, two_values, default_table}
use Rattle.tables.specs.Section2.{is_default, table_at, after_table, tables_from, after_tables, tables_in, table_of, table_right, section2_right}
use Rattle.reading.specs.Reading.{matching, value_of, after_match, read_within, read_coded, read_next}
use Rattle.samples.specs.Differences.{stored_of, stored_from, differences}
use Rattle.entries.specs.Section4.{samples_in_beat}
use Rattle.shortest.specs.Shortest.{are_bits}
use Rattle.shortest.specs.InnerRule.{twos, holds, equal, serves, kind_of, word_of}
use Rattle.shortest.proofs.Existence.{reads_it, passes_reads}
use Rattle.shortest.proofs.Certificate.{shortest_by, outside_none}
use Rattle.encode.specs.declared.Coded.{Coded}
use Rattle.encode.specs.Encoding.{tables_given, tables_given_right, found_refusal, LeadEncoding, refused, answered}
use Rattle.trip.proofs.Compose.{given_right}
use Rattle.fields.specs.Identifier.{same}
use Rattle.answers.proofs.Fewest.{asked}
use Rattle.answers.specs.Examples.{two_tables, named_default, values_p3, values_p5, bytes_p3, bytes_p5, bits_p5, bits_p7, samples_p9, samples_p1, field007, field7, id007, id7, Examples}

-- P9's third value has more than 16 bits
refused_15 : {s2 work out : List ℕ} {a : Coded} {w o : List ℕ} → tables_given_right s2 ≡ true → 3 * length (tables_given s2) ≤ length work
    → LeadEncoding s2 samples_p9 2 work out a w o → a.refusal ≡ 15
unfolding samples_p9 differences stored_from stored_of found_refusal
refused_15 {s2 = s2} {work = work} right room (refused n e) =
    absurd (omega (arith, sym (asked s2 3 2 (length work) right (omega arith) (omega arith) (omega arith) room) ∙ e))
refused_15 right room (answered none e F) = refl
refused_15 {s2 = s2} right room (answered (some bs) e F) =
    absurd (outside_none (tables_given s2) (given_right s2 right) (differences 2 samples_p9) 2 (omega arith) (omega arith) bs F.stream)

pub examples : Examples
unfolding values_p5 samples_p9 all_in each are_bits reads_it twos holds equal serves kind_of word_of samples_p1 differences stored_from stored_of samples_in_beat two_tables named_default values_p3 bytes_p3 bytes_p5 bits_p5 bits_p7 field007 field7 id007 id7 same step_at is_field field_at tables_in is_default tables_from table_at after_table after_tables table_right section2_right ends_by structures_at structure_at number_at every structure_right mode_right prefix_free apart begins low_first high_first bits_in number_after signed default_table valued code_of ones two_values read_next read_coded read_within after_match value_of matching table_of
examples = record {
  p1 = refl;
  p2 = refl;
  p3 =
      shortest_by (tables_in named_default 0) values_p3 (take 71 (bits_in bytes_p3))
      (17 ∷ 17 ∷ 0 ∷ 8 ∷ 17 ∷ 2 ∷ 9 ∷ []) (omega arith) refl;
  p4 = refl;
  p5_tables = refl;
  p5 = record { bits = refl; reads = passes_reads (tables_in two_tables 0) values_p5 1 bits_p5 refl };
  p5_switch = refl;
  p5_back = refl;
  p6 =
      shortest_by (tables_in two_tables 0) values_p5
      (take 87 (bits_in (153 ∷ 94 ∷ 6 ∷ 240 ∷ 72 ∷ 215 ∷ 135 ∷ 215 ∷ 134 ∷ 166 ∷ 216 ∷ [])))
      (1 ∷ 3 ∷ 2 ∷ 0 ∷ 6 ∷ 0 ∷ 6 ∷ 1 ∷ 0 ∷ 4 ∷ 0 ∷ 6 ∷ 2 ∷ 0 ∷ 6 ∷ 0 ∷ 1 ∷ 4 ∷ 2 ∷ 1 ∷ []) (omega arith) refl;
  p7_once = shortest_by (tables_in two_tables 0) (pos 15 ∷ []) (take 12 (bits_in (240 ∷ 240 ∷ []))) (6 ∷ []) (omega arith) refl;
  p7_twice = shortest_by (tables_in two_tables 0) (pos 15 ∷ pos 15 ∷ []) bits_p7 (5 ∷ 0 ∷ 0 ∷ []) (omega arith) refl;
  p7_switch = refl;
  p8 = refl;
  p9_values = refl;
  p9 = λ s2 work out a w o right room E. refused_15 right room E;
  p10_fields = (refl, refl, refl, refl);
  p10 = refl;
}
