-- From a record that the writer wrote, the reader gives back (the second demand; 01, What the contracts have to settle): the fields of
-- Section 1 in their order and byte for byte, and every lead sample for sample, with all that the job says of it, bit 0 of the flags
-- cleared; and no other lead.
use Rattle.std.specs.Prelude.{ℕ, ◌+◌, ◌-◌, ◌%◌, ◌≤◌, ◌<◌, ◌≡◌, true, List, [], map, ◌⊎◌, ℤ, length, get_or, Option}
use Rattle.wire.specs.Numbers.{part}
use Rattle.wire.specs.RuleWords.{every}
use Rattle.header.specs.declared.Field.{Field}
use Rattle.header.specs.Fields.{fields_from, with_tag, occurring, shown_bytes}
use Rattle.pointers.specs.Pointers.{data_at, section_of}
use Rattle.record.specs.Opening.{open_refusal}
use Rattle.fields.specs.Lookup.{place_found, field_place, refusal_of, part_bytes}
use Rattle.samples.specs.Trace.{rebuilt, fits16}
use Rattle.leads.specs.LeadTrace.{read_trace}
use Rattle.leads.specs.LeadCompared.{compared_at}
use Rattle.leads.specs.LeadAnswers.{lead_answer, entry_answer}
use Rattle.compose.specs.Writing.{Job, cut}

-- a field of Section 1's data, where the section's header comes before them
abbrev pub behind_header : Field → Field
behind_header f = record { tag = f.tag; start = data_at + f.start; end = data_at + f.end }

-- the samples of lead k, from 0
abbrev pub samples_of : Job → ℕ → List ℤ
samples_of j k = get_or (cut j.counts j.samples) k []

-- a job's numbers are such as can be lent: step and interval of two bytes, samples of 16 bits; nothing is asked of its other numbers and
-- its bytes
pub record JobFits (j : Job) : Type 0 where
  pub step : j.step < 65536
  pub interval : j.interval < 65536
  pub samples : every fits16 j.samples ≡ true

-- a record r gives back a job j
pub record GivenBack (j : Job) (r : List ℕ) : Type 0 where
  -- the record opens
  pub opened : open_refusal r ≡ 0
  -- Section 1's data are those given; a walk meets the same fields in the same order; and a field is shown, or refused with 10, by what
  -- is in the data given
  pub section1 : part (section_of r 1) data_at (data_at + length j.section1) ≡ j.section1
  pub walked : fields_from (section_of r 1) data_at ≡ map behind_header (fields_from j.section1 0)
  pub fields : (tag n : ℕ) (step : Option Field) → occurring n (with_tag tag (fields_from j.section1 0)) ≡ step
      → (refusal_of (field_place r tag n) ≡ refusal_of (place_found 0 step)) × (part_bytes r (field_place r tag n) ≡ shown_bytes j.section1 step)
  -- every lead's samples, with room for them and any work space, and what is answered beside them; how many structures are compared
  -- depends on the stream, which the third demand fixes
  pub samples : (k room work : ℕ) → k < length j.counts → get_or j.counts k 0 ≤ room → read_trace r (k + 1) room work ≡ rebuilt (samples_of j k)
  pub answers : (k room work : ℕ) → k < length j.counts → get_or j.counts k 0 ≤ room →
      lead_answer r (k + 1) room work
      ≡ record {
        refusal = 0;
        id = get_or j.ids k 0;
        flags = j.flags - j.flags % 2;
        step = j.step;
        interval = j.interval;
        first = get_or j.firsts k 0;
        count = get_or j.counts k 0;
        compared = compared_at r k;
      }
  -- its entry too says what the job does, all but the bytes of its stream, which the third demand fixes
  pub entries : (k : ℕ) → k < length j.counts → (bytes : ℕ)
      × (entry_answer r (k + 1)
      ≡ record {
        refusal = 0;
        id = get_or j.ids k 0;
        flags = j.flags - j.flags % 2;
        order = j.order;
        step = j.step;
        interval = j.interval;
        first = get_or j.firsts k 0;
        last = get_or j.firsts k 0 + get_or j.counts k 0 - 1;
        leads = length j.counts;
        bytes = bytes;
      })
  -- at any other place there is no lead
  pub no_other : (place room work : ℕ) → (place ≡ 0) ⊎ (length j.counts < place)
      → ((lead_answer r place room work).refusal ≡ 10) × ((entry_answer r place).refusal ≡ 10)
