-- A trace (01, Leads and samples; 01, Refusal numbers): the samples rebuilt, or a refusal number.
use Rattle.std.specs.Prelude.{ℕ, Bool, cond, List, ◌∷◌, ltb, ℤ, pos, negsuc}

pub data Trace : Type 0 where
  rebuilt : List ℤ → Trace
  fault : ℕ → Trace

-- a whole number of 16 bits, from -32,768 to 32,767
unfoldable pub fits16 : ℤ → Bool
fits16 (pos n) = ltb n 32768
fits16 (negsuc n) = ltb n 32768

-- a sample, and behind it those that follow; a fault stays
abbrev pub behind : ℤ → Trace → Trace
behind x (rebuilt xs) = rebuilt (x ∷ xs)
behind x (fault number) = fault number

-- a sample is rebuilt, and is what the rest goes on from; 13 where it is outside 16 bits
unfoldable pub after_sample : (ℤ → Trace) → ℤ → Trace
after_sample go_on x = cond (fits16 x) (behind x (go_on x)) (fault 13)

-- where a trace is rebuilt, what is made of its samples; a fault stays
abbrev pub after_trace : Trace → (List ℤ → Trace) → Trace
after_trace (rebuilt xs) go_on = go_on xs
after_trace (fault number) go_on = fault number
