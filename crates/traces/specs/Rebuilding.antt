-- The trace that a stream of bits is rebuilt to (01, Code tables; 01, Leads and samples; 01, Refusal numbers 12 to 14; Q-1): value
-- after value is read, a sample is made of each, and the first fault ends it. 12 is given by `after_next`, where there is no value to
-- read; 13 by `after_sample` (crates/samples/specs/Trace.antt), where the sample has more than 16 bits; 14 by `rebuild_from`, behind the
-- last sample.
use Rattle.std.specs.Prelude.{ℕ, zero, suc, ◌+◌, cond, List, [], leb, ℤ, pos, length}
use Rattle.tables.specs.declared.Structure.{Structure}
use Rattle.reading.specs.Reading.{Next, gave, stuck, read_next}
use Rattle.samples.specs.Differences.{sample_of}
use Rattle.samples.specs.Trace.{Trace, rebuilt, fault, after_sample}

-- a value is read; 12 where there is none to read
abbrev pub after_next : (ℤ → ℕ → List ℕ → Trace) → Next → Trace
after_next go_on (gave v table bs) = go_on v table bs
after_next go_on stuck = fault 12

-- how many bits may be left over behind the last sample (01, Leads and samples, and Refusal numbers, row 14, both as amended by Q-1)
abbrev pub most_left_over : ℕ
most_left_over = 15

-- the samples that are left to rebuild, `left` of them. The next one's place is `place`; `last` is the sample before it, and `other` the
-- one before that; `table` is current, and `bs` are the bits that are not read yet. Behind the last sample up to 15 bits are
-- ignored, whatever they hold; 16 or more give 14
unfoldable pub rebuild_from : (tables : List (List Structure)) (order left place : ℕ) (last other : ℤ) (table : ℕ) (bs : List ℕ) → Trace
rebuild_from tables order zero place last other table bs = cond (leb (length bs) most_left_over) (rebuilt []) (fault 14)
rebuild_from tables order (suc left) place last other table bs =
    after_next
    (λ v next rest. after_sample (λ x. rebuild_from tables order left (place + 1) x last next rest) (sample_of order place v last other))
    (read_next tables table bs)

-- a lead's or a beat's samples, by its difference order and how many there are: each starts in table 1
unfoldable pub rebuild : List (List Structure) → ℕ → ℕ → List ℕ → Trace
rebuild tables order count bs = rebuild_from tables order count 0 (pos 0) (pos 0) 1 bs
