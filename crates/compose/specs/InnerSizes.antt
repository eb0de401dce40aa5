-- The sizes of the leads' streams, before any is written. No public contract rests on this.
use Rattle.std.specs.Prelude.{ℕ, ◌≤◌, ◌≡◌, cond, List, [], ◌∷◌, map, leb, ltb, eqb, ℤ, length}
use Rattle.wire.specs.RuleWords.{unless}
use Rattle.search.specs.InnerSearch.{cap}
use Rattle.std.proofs.Math.Option.{Option, none, some}
use Rattle.packing.specs.Packing.{bytes_for}
use Rattle.samples.specs.Differences.{differences}
use Rattle.shortest.specs.Shortest.{Shortest}
use Rattle.encode.specs.Encoding.{tables_given}
use Rattle.encode.specs.InnerEncode.{bits_found}
use Rattle.compose.specs.Writing.{SearchFindsAll, packed_all}

-- the bytes of a stream, 65,536 for that many and more, and for no stream
abbrev pub size_found : Option (List ℕ) → ℕ
size_found found = bytes_for (bits_found found)

-- 15 where some lead has no stream, else 16 where a stream has over 65,535 bytes, else 0: for a lead before others, and for all
abbrev pub number_with : Option (List ℕ) → ℕ → ℕ
number_with none later = 15
number_with (some bs) later = cond (leb (bytes_for (length bs)) 65535) later (cond (eqb later 15) 15 16)

unfoldable pub number_for : List (Option (List ℕ)) → ℕ
number_for [] = 0
number_for (found ∷ founds) = number_with found (number_for founds)

-- the same by the most bits that are found for a lead
abbrev pub number_at : ℕ → ℕ
number_at most = unless (leb most cap) 15 (unless (ltb most cap) 16 0)

-- the number and the sizes are those of what is found for the leads
pub record SizedAs (s2 : List ℕ) (order : ℕ) (xss : List (List ℤ)) (number : ℕ) (sizes : List ℕ) : Type 0 where
  pub founds : List (Option (List ℕ))
  pub all : SearchFindsAll s2 order xss founds
  pub says : number ≡ number_for founds
  pub each : sizes ≡ map size_found founds

-- the samples have a shortest stream, of `size` bytes
abbrev pub StreamOf : List ℕ → ℕ → List ℤ → ℕ → Type 0
StreamOf s2 order xs size =
    (bs : List ℕ) × Shortest (tables_given s2) (differences order xs) bs × (bytes_for (length bs) ≤ 65535) × (bytes_for (length bs) ≡ size)

-- the packed streams of leads that have one each
abbrev pub StreamsFor : List ℕ → ℕ → List (List ℤ) → List (List ℕ) → Type 0
StreamsFor s2 order xss streams = (founds : List (Option (List ℕ))) × SearchFindsAll s2 order xss founds × (packed_all founds ≡ some streams)
