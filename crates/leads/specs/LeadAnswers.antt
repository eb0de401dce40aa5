-- The answer of reading a lead, and the contents of the lent room afterwards (01, Refusal numbers, the paragraphs under the table; Q-6);
-- and the answer of asking for a lead's entry. That call is ours: 01 has no such call, and the rows that refuse it are 01's, 1 to 10.
use Rattle.std.specs.Prelude.{ℕ, zero, suc, ◌-◌, ◌&&◌, cond, List, ◌++◌, eqb, ℤ, pos, length, drop, replicate}
use Rattle.pointers.specs.Pointers.{section_of}
use Rattle.entries.specs.Section3.{flags_of, first_sample, last_sample, lead_id}
use Rattle.entries.specs.Sections5And6.{step_of, interval_of, order_of, byte_count_of}
use Rattle.rules.specs.LeadRules.{lead_count_of, beat_subtracted, lead_refusal}
use Rattle.samples.specs.Trace.{Trace, rebuilt, fault}
use Rattle.leads.specs.LeadTrace.{read_refusal, read_trace}
use Rattle.leads.specs.LeadCompared.{compared_at}
use Rattle.leads.specs.declared.Lead.{Lead}
use Rattle.leads.specs.declared.Entry.{Entry}

-- the count, the first sample's number, the ID, the flags as stored, Section 6's step and interval, and how many structures were
-- compared (Q-6); a refusal is its number and nothing else
abbrev pub lead_of : List ℕ → ℕ → Trace → Lead
lead_of r k (rebuilt xs) = record {
  refusal = 0;
  id = lead_id (section_of r 3) k;
  flags = flags_of (section_of r 3);
  step = step_of (section_of r 6);
  interval = interval_of (section_of r 6);
  first = first_sample (section_of r 3) k;
  count = length xs;
  compared = compared_at r k;
}
lead_of r k (fault number) = record { refusal = number; id = 0; flags = 0; step = 0; interval = 0; first = 0; count = 0; compared = 0 }

-- reading the lead at a place, where this much room and work space are lent
abbrev pub lead_answer : List ℕ → ℕ → ℕ → ℕ → Lead
lead_answer r place room work = lead_of r (place - 1) (read_trace r place room work)

-- the output: it begins with the samples, and is as it was behind them; a refusal changes nothing
abbrev pub out_after : Trace → List ℤ → List ℤ
out_after (rebuilt xs) out = xs ++ drop (length xs) out
out_after (fault number) out = out

-- the work space: all of it zeros once a beat's reading has begun, untouched otherwise
unfoldable pub work_after : List ℕ → ℕ → ℕ → List ℤ → List ℤ
work_after r place room work =
    cond (eqb (read_refusal r place room (length work)) 0 && beat_subtracted r) (replicate (length work) (pos 0)) work

-- what Sections 3 and 6 say of lead k, no stream read; a refusal is its number and nothing else
abbrev pub entry_of : List ℕ → ℕ → ℕ → Entry
entry_of r k zero = record {
  refusal = 0;
  id = lead_id (section_of r 3) k;
  flags = flags_of (section_of r 3);
  order = order_of (section_of r 6);
  step = step_of (section_of r 6);
  interval = interval_of (section_of r 6);
  first = first_sample (section_of r 3) k;
  last = last_sample (section_of r 3) k;
  leads = lead_count_of r;
  bytes = byte_count_of (section_of r 6) k;
}
entry_of r k (suc n) = record {
  refusal = suc n;
  id = 0;
  flags = 0;
  order = 0;
  step = 0;
  interval = 0;
  first = 0;
  last = 0;
  leads = 0;
  bytes = 0;
}

-- the entry of the lead at a place, from 1; no room is lent, so that it is refused with the smallest of 1 to 10
abbrev pub entry_answer : List ℕ → ℕ → Entry
entry_answer r place = entry_of r (place - 1) (lead_refusal r place)
