-- The conditions for writing a lead's stream, and the state that it leaves. No public contract rests on this.
use Rattle.std.specs.Prelude.{ℕ, zero, suc, min, ◌+◌, ◌≡◌, List, [], ◌++◌, ◌⊎◌, ℤ, length, drop, replicate, Result, Ok, Err}
use Rattle.std.proofs.Math.Option.{Option, none, some}
use Rattle.bits.specs.Bits.{high_first}
use Rattle.tables.specs.declared.Structure.{Structure}
use Rattle.compiled.specs.declared.Form.{Form}
use Rattle.compiled.specs.InnerForm.{room_numbers, Compiled, CompiledOrNone}
use Rattle.packing.specs.declared.Sink.{Sink}
use Rattle.packing.specs.Packing.{bytes_for}
use Rattle.packing.specs.InnerSink.{Holds}
use Rattle.paths.specs.InnerPaths.{There, Best}
use Rattle.shortest.specs.Shortest.{Shortest}
use Rattle.shortest.specs.InnerRule.{twos, rule}
use Rattle.search.specs.InnerSearch.{cap, Planned}
use Rattle.refusals.specs.declared.Refusal.{Refusal}
use Rattle.refusals.specs.Refusals.{number_of}
use Rattle.encode.specs.declared.Coded.{Coded}
use Rattle.encode.specs.Encoding.{SearchFinds, found_refusal, coded_as, out_as}

-- the code word of a structure's form for a value
abbrev pub code_of : Form → ℤ → List ℕ
code_of f v = high_first f.prefix f.word ++ high_first f.remainder (twos f.remainder v)

-- ---- the walk of a stream

-- w is written, s is left, and together they are the shortest stream
pub record PartWritten (tables : List (List Structure)) (vs : List ℤ) (total : ℕ) (out : List ℕ) (sink : Sink) (i t left : ℕ) : Type 0 where
  pub table : There (rule tables) t
  pub s : List ℕ
  pub best : Best (rule tables) t (drop i vs) s
  pub rest : length s ≡ left
  pub w : List ℕ
  pub holds : Holds out sink w
  pub sum : length w + left ≡ total
  pub all : (z : List ℕ) → Shortest tables vs z → z ≡ w ++ s

-- so it is for all sets of tables that the numbers say, and behind the sink the output is as it was
pub record PartWrittenBy (tab : List ℕ) (n : ℕ) (vs : List ℤ) (total : ℕ) (out₀ out : List ℕ) (sink : Sink) (i t left : ℕ) : Type 0 where
  pub same : length out ≡ length out₀
  pub behind : drop sink.at out ≡ drop sink.at out₀
  pub on : (tables : List (List Structure)) → Compiled tables tab → length tables ≡ n → PartWritten tables vs total out sink i t left

-- ---- a lead's stream

-- the numbers hold some n tables, or none where n is 0
abbrev pub CompiledOrNoneCount : List ℕ → ℕ → Type 0
CompiledOrNoneCount tab n = (tables : List (List Structure)) × CompiledOrNone tables tab × (length tables ≡ n)

-- how many bits were found: 524,281 for that many and more, 524,282 for no stream
abbrev pub bits_found : Option (List ℕ) → ℕ
bits_found none = suc cap
bits_found (some bs) = min cap (length bs)

-- r is how many bits the shortest stream has
abbrev pub Sized : List (List Structure) → List ℤ → ℕ → Type 0
Sized tables vs r = (found : Option (List ℕ)) × SearchFinds tables vs found × (r ≡ bits_found found)

-- an answer, and what it is to C
abbrev pub coded_in : Result ℕ Refusal → Coded
coded_in (Ok bits) = record { refusal = 0; bytes = bytes_for bits; bits = bits }
coded_in (Err e) = record { refusal = number_of e; bytes = 0; bits = 0 }

-- the way of a stream of r bits is in the work space; without Section 2 none is needed
abbrev pub Laid : List (List Structure) → List ℤ → List ℕ → ℕ → Type 0
Laid tables vs work r = (tables ≡ []) ⊎ Planned tables vs work r

-- what writing a lead's stream answers, and the output afterwards
abbrev pub Written : List (List Structure) → List ℤ → List ℕ → Coded → List ℕ → Type 0
Written tables vs out r out' =
    (found : Option (List ℕ)) × SearchFinds tables vs found × (r ≡ coded_as (found_refusal (length out) found) found)
    × (out' ≡ out_as (found_refusal (length out) found) found out)

-- the work space: zeros, unless there are no tables
abbrev pub cleared_if : ℕ → List ℕ → List ℕ
cleared_if zero work = work
cleared_if (suc n) work = replicate (length work) 0

-- how many numbers hold the tables of Section 2's data, by how many bytes the data have
abbrev pub held_for : ℕ → ℕ
held_for zero = 0
held_for (suc n) = room_numbers
