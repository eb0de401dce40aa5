-- The meaning of a step of rebuilding. No public contract rests on this.
use Rattle.std.specs.Prelude.{ℕ, ◌≤◌, ◌<◌, ◌≡◌, List, ℤ, drop, Result, Ok, Err}
use Rattle.refusals.specs.declared.Refusal.{Refusal}
use Rattle.refusals.specs.Refusals.{number_of}
use Rattle.bits.specs.InnerRaised.{sample_zero, from_zero}
use Rattle.samples.specs.Trace.{Trace, fault, behind}
use Rattle.reading.specs.InnerCursor.{Within}
use Rattle.reading.specs.declared.Cursor.{Cursor}

-- a step gave a sample, from which the rest goes on, or a refusal
abbrev pub trace_from : List ℕ → (ℤ → ℕ → List ℕ → Trace) → Result (ℕ × Cursor) Refusal → Trace
trace_from bs go_on (Ok x) = behind (from_zero sample_zero x.0) (go_on (from_zero sample_zero x.0) x.1.table (drop x.1.at bs))
trace_from bs go_on (Err e) = fault (number_of e)

-- a sample of 16 bits, and a cursor within n bits; or a refusal that has a number
abbrev pub SampledWithin : ℕ → Result (ℕ × Cursor) Refusal → Type 0
SampledWithin n (Ok x) = (x.0 < 65536) × Within n x.1
SampledWithin n (Err e) = 1 ≤ number_of e

-- the sum from a sample's cursor on is n
abbrev pub SampledSum : (Cursor → ℕ) → ℕ → Result (ℕ × Cursor) Refusal → Type 0
SampledSum sum n (Ok x) = sum x.1 ≡ n
SampledSum sum n (Err e) = Unit {0}
