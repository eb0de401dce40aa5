-- The facts that hold once nothing is refused before the search. No public contract rests on this.
use Rattle.std.specs.Prelude.{ℕ, ◌+◌, ◌*◌, ◌<◌, ◌≤◌, ◌≡◌, true, cond, List, leb, eqb, length, get_or, take, drop, Result, Ok, Err, IfOk, OnErr}
use Rattle.refusals.specs.declared.Refusal.{Refusal}
use Rattle.refusals.specs.Refusals.{number_of, refusal_in}
use Rattle.wire.specs.RuleWords.{unless}
use Rattle.layout.specs.Layout.{section_length, section_bytes, zero_reserved, streams_data, section2_size, record_size}
use Rattle.encode.specs.Encoding.{tables_given, tables_given_right}
use Rattle.compose.specs.declared.Written.{Written}
use Rattle.compose.specs.declared.Job.{Job as Lent}
use Rattle.compose.specs.Writing.{Job, job_of, total, longest, cut}
use Rattle.compose.specs.InnerSizes.{SizedAs, StreamsFor}

-- the job that is lent
abbrev pub lent : Lent → Job
lent j = job_of j.section1.now j.section2.now j.head j.firsts.now j.counts.now j.ids.now j.samples.now

-- the streams can be looked for: Section 2 is right, the samples are those of the leads, and the work space has room for the longest
abbrev pub Sound : Job → ℕ → Type 0
Sound j work =
    (tables_given_right j.section2 ≡ true)
    × (longest j.counts ≤ 65536)
    × (longest j.counts * length (tables_given j.section2) ≤ work)
    × (total j.counts ≡ length j.samples)

-- at most 32 leads, in lists of equal length, each with a sample
abbrev pub Listed : Job → Type 0
Listed j =
    (length j.firsts ≡ length j.counts)
    × (length j.ids ≡ length j.counts)
    × (length j.counts ≤ 32)
    × ((k : ℕ) → k < length j.counts → 1 ≤ get_or j.counts k 0)

-- where Section 6 begins, by the lengths of Section 1's and 2's data and the count of leads
abbrev pub front_size : ℕ → ℕ → ℕ → ℕ
front_size count1 count2 leads = 142 + section_length count1 + section2_size count2 + section_length (2 + 9 * leads)

-- the length of Section 6's data, by the sizes of the streams
abbrev pub count6 : List ℕ → ℕ
count6 sizes = 6 + 2 * length sizes + total sizes

-- the record's length
abbrev pub size_with : ℕ → ℕ → List ℕ → ℕ
size_with count1 count2 sizes = record_size count1 count2 (2 + 9 * length sizes) (count6 sizes)

-- 16 and 11 for the output, by the record's length and the room
abbrev pub size_refusal : ℕ → ℕ → ℕ
size_refusal size room = unless (leb size 1048576) 16 (unless (leb size room) 11 0)

-- 15, 16 and 11 for the output, by the number that the streams ask for, the record's length and the room
abbrev pub refusal_for : ℕ → ℕ → ℕ → ℕ
refusal_for number size room = cond (eqb number 0) (size_refusal size room) number

-- a refusal and nothing else, or the record's length
abbrev pub written : Result ℕ Refusal → Written
written (Ok bytes) = record { refusal = 0; bytes = bytes }
written (Err e) = record { refusal = number_of e; bytes = 0 }

-- Section 6 ends where the record will, and behind it nothing is changed
abbrev pub Put6 : Job → List ℕ → ℕ → List ℕ → Type 0
Put6 j out size out' =
    (drop size out' ≡ drop size out)
    × ((streams : List (List ℕ)) → StreamsFor j.section2 j.order (cut j.counts j.samples) streams
    → drop (front_size (length j.section1) (length j.section2) (length j.counts)) (take size out')
    ≡ section_bytes 6 j.version zero_reserved (streams_data j.step j.interval j.order streams))

-- the streams are sized, and they and the room decide: a refusal changes nothing, else Section 6 is put
pub record Streamed (j : Job) (out : List ℕ) (r : Result ℕ Refusal) (out' : List ℕ) : Type 0 where
  pub sizes : List ℕ
  pub number : ℕ
  pub each : length sizes ≡ length j.counts
  pub sized : SizedAs j.section2 j.order (cut j.counts j.samples) number sizes
  pub answer : refusal_in r ≡ refusal_for number (size_with (length j.section1) (length j.section2) sizes) (length out)
  pub same : OnErr r (out' ≡ out)
  pub put : IfOk r (λ bytes. (bytes ≡ size_with (length j.section1) (length j.section2) sizes) × Put6 j out bytes out')
