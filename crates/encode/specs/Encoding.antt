-- Encoding one lead (the customer's third demand, quoted in crates/answers/specs/Demands.antt; 01, Numbers that bound the work; 01,
-- Refusal numbers 7, 11 and 15 to 17 and the paragraphs under the table).
use Rattle.std.specs.Prelude.{ℕ, zero, suc, ◌*◌, ◌≡◌, Bool, ◌&&◌, ◌||◌, cond, List, [], ◌++◌, leb, eqb, ℤ, length, drop, replicate}
use Rattle.std.proofs.Math.Option.{Option, none, some}
use Rattle.wire.specs.Bounds.{most_samples, most_stream_bytes}
use Rattle.wire.specs.RuleWords.{unless}
use Rattle.tables.specs.declared.Structure.{Structure}
use Rattle.tables.specs.Section2.{tables_in, section2_right}
use Rattle.samples.specs.Differences.{differences}
use Rattle.packing.specs.Packing.{bytes_for, packed}
use Rattle.shortest.specs.Shortest.{Shortest, NoStream}
use Rattle.encode.specs.declared.Coded.{Coded}

-- the tables that Section 2's data mean, as they are given to the writer; empty data mean no Section 2
unfoldable pub tables_given : List ℕ → List (List Structure)
tables_given s2 = cond (eqb (length s2) 0) [] (tables_in s2 0)

-- 17: 1 to 65,536 samples, and a difference order of 0 to 2
unfoldable pub asked_right : ℕ → ℕ → Bool
asked_right count order = leb 1 count && (leb count most_samples && leb order 2)

-- 7: the data are empty, or keep Section 2's rule with no spare byte
unfoldable pub tables_given_right : List ℕ → Bool
tables_given_right s2 = eqb (length s2) 0 || section2_right 0 s2 0

-- 11: the work space has a byte for each sample times each table; without Section 2 none is needed
unfoldable pub work_right : List ℕ → ℕ → ℕ → Bool
work_right s2 count work = leb (count * length (tables_given s2)) work

-- the first of 17, 7 and 11 for work space that applies, in that order, and 0 where none does: then a stream is looked for
unfoldable pub asked_refusal : List ℕ → ℕ → ℕ → ℕ → ℕ
asked_refusal s2 count order work =
    unless (asked_right count order) 17 (unless (tables_given_right s2) 7 (unless (work_right s2 count work) 11 0))

-- what is found for a lead's values: the shortest stream, or none, if no stream reads to them
abbrev pub SearchFinds : List (List Structure) → List ℤ → Option (List ℕ) → Type 0
SearchFinds tables vs none = NoStream tables vs
SearchFinds tables vs (some bs) = Shortest tables vs bs

-- 15 where there is no stream, 16 where the shortest has over 65,535 bytes, 11 where the output has no room for it
unfoldable pub found_refusal : ℕ → Option (List ℕ) → ℕ
found_refusal room none = 15
found_refusal room (some bs) =
    unless (leb (bytes_for (length bs)) most_stream_bytes) 16 (unless (leb (bytes_for (length bs)) room) 11 0)

-- a refusal is its number and nothing else; else the bytes and the bits of the stream are answered. The case `zero none` is never
-- met: without a stream the number is 15
abbrev pub coded_as : ℕ → Option (List ℕ) → Coded
coded_as zero (some bs) = record { refusal = 0; bytes = bytes_for (length bs); bits = length bs }
coded_as zero none = record { refusal = 0; bytes = 0; bits = 0 }
coded_as (suc n) found = record { refusal = suc n; bytes = 0; bits = 0 }

-- the output: it begins with the stream in bytes, the bits left over 0, and is as it was behind them; a refusal changes nothing. The
-- case `zero none` is never met: without a stream the number is 15
abbrev pub out_as : ℕ → Option (List ℕ) → List ℕ → List ℕ
out_as zero (some bs) out = packed bs ++ drop (bytes_for (length bs)) out
out_as zero none out = out
out_as (suc n) found out = out

-- the work space where nothing was refused before the search: all of it zeros; as it was without Section 2, since there is no search then
unfoldable pub work_searched : List ℕ → List ℕ → List ℕ
work_searched s2 work = cond (eqb (length s2) 0) work (replicate (length work) 0)

-- what encoding samples answers, and the work space and the output afterwards: refused before a stream is looked for, or by what is found
pub data LeadEncoding (s2 : List ℕ) (xs : List ℤ) (order : ℕ) (work out : List ℕ) : Coded → List ℕ → List ℕ → Type 0 where
  refused : (n : ℕ) → asked_refusal s2 (length xs) order (length work) ≡ suc n → LeadEncoding s2 xs order work out (coded_as (suc n) none) work out
  answered : (found : Option (List ℕ)) → asked_refusal s2 (length xs) order (length work) ≡ 0 →
      SearchFinds (tables_given s2) (differences order xs) found →
      LeadEncoding s2 xs order work out (coded_as (found_refusal (length out) found) found) (work_searched s2 work)
      (out_as (found_refusal (length out) found) found out)
