-- A trace joined to the samples before it, and the trace that an answer means. No public contract rests on this.
use Rattle.std.specs.Prelude.{ℕ, zero, suc, List, ◌++◌, ℤ}
use Rattle.samples.specs.Trace.{Trace, rebuilt, fault}

-- samples before those of a trace
abbrev pub before : List ℤ → Trace → Trace
before xs (rebuilt ys) = rebuilt (xs ++ ys)
before xs (fault number) = fault number

-- the trace that an answer means, which has a number and samples beside it: with the number 0 these are rebuilt; any other
-- number is a fault, whatever the samples are
abbrev pub trace_of : ℕ → List ℤ → Trace
trace_of zero xs = rebuilt xs
trace_of (suc n) xs = fault (suc n)
