-- How many structures reading a lead compares, and how many bits it reads (01, Leads and samples; Q-6), over the bytes r of a record;
-- lead k counts from 0 here. None of it is reported of a lead that is refused, where it means nothing.
use Rattle.std.specs.Prelude.{ℕ, ◌+◌, cond, List}
use Rattle.pointers.specs.Pointers.{section_of}
use Rattle.bits.specs.Bits.{bits_in}
use Rattle.entries.specs.Sections5And6.{stream_of}
use Rattle.rules.specs.LeadRules.{lead_count_of, beat_subtracted, beat_sample_count}
use Rattle.reading.specs.Compared.{compared_of, bits_read}
use Rattle.leads.specs.LeadTrace.{tables_of, sample_count_at}

-- lead k's stream in Section 5 or 6, of `count` values: the structures compared, and the bits of its codes
unfoldable pub stream_compared : List ℕ → ℕ → ℕ → ℕ → ℕ
stream_compared r section count k = compared_of (tables_of r) count (bits_in (stream_of (lead_count_of r) (section_of r section) k))

unfoldable pub stream_bits : List ℕ → ℕ → ℕ → ℕ → ℕ
stream_bits r section count k = bits_read (tables_of r) count (bits_in (stream_of (lead_count_of r) (section_of r section) k))

-- of all streams that reading lead k takes: the beat's, where one was subtracted, once; and the lead's own
unfoldable pub over_streams : (ℕ → ℕ → ℕ → ℕ) → List ℕ → ℕ → ℕ
over_streams of r k = cond (beat_subtracted r) (of 5 (beat_sample_count r) k) 0 + of 6 (sample_count_at r k) k

unfoldable pub compared_at : List ℕ → ℕ → ℕ
compared_at r k = over_streams (stream_compared r) r k

unfoldable pub bits_read_at : List ℕ → ℕ → ℕ
bits_read_at r k = over_streams (stream_bits r) r k
