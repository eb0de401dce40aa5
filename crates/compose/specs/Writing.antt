-- Writing a record (01, Numbers that bound the work; 01, Refusal numbers 6, 7, 11 and 15 to 17 and the paragraphs under the table).
use Rattle.std.specs.Prelude.{ℕ, zero, suc, ◌+◌, ◌≡◌, Bool, not, ◌&&◌, cond, List, [], ◌∷◌, ◌++◌, leb, eqb, ℤ, length, get_or, take, drop}
use Rattle.std.proofs.Math.Option.{Option, none, some}
use Rattle.wire.specs.Bounds.{most_bytes, most_leads, most_samples, most_stream_bytes}
use Rattle.wire.specs.RuleWords.{all_in, every, unless}
use Rattle.header.specs.Header.{section1_right}
use Rattle.samples.specs.Differences.{differences}
use Rattle.packing.specs.Packing.{packed}
use Rattle.layout.specs.Layout.{leads_data, streams_data, record_bytes}
use Rattle.encode.specs.Encoding.{tables_given, tables_given_right, work_right, SearchFinds, work_searched}
use Rattle.compose.specs.declared.Written.{Written}
use Rattle.compose.specs.declared.Head.{Head}

-- a job is the writer's input: Section 1's data with their end mark, Section 2's (empty: none), the numbers that apply to all leads,
-- and the leads, whose samples follow one another
pub record Job : Type 0 where
  pub section1 : List ℕ
  pub section2 : List ℕ
  pub version : ℕ
  pub flags : ℕ
  pub step : ℕ
  pub interval : ℕ
  pub order : ℕ
  pub firsts : List ℕ
  pub counts : List ℕ
  pub ids : List ℕ
  pub samples : List ℤ

-- a job as it is lent: Sections 1 and 2, the numbers that apply to all leads, then the leads' lists
abbrev pub job_of : List ℕ → List ℕ → Head → List ℕ → List ℕ → List ℕ → List ℤ → Job
job_of s1 s2 head firsts counts ids xs = record {
  section1 = s1;
  section2 = s2;
  version = head.version;
  flags = head.flags;
  step = head.step;
  interval = head.interval;
  order = head.order;
  firsts = firsts;
  counts = counts;
  ids = ids;
  samples = xs;
}

-- ---- what is asked

-- the counts together, and the largest of them
unfoldable pub total : List ℕ → ℕ
total [] = 0
total (c ∷ cs) = c + total cs

unfoldable pub longest : List ℕ → ℕ
longest [] = 0
longest (c ∷ cs) = cond (leb (longest cs) c) c (longest cs)

-- lead k, from 0: 1 to 65,536 samples; the first has number 1 or more, and the last, whose number is first + count - 1, a number of 32
-- bits, so that first + count is at most 2^32
unfoldable pub lead_asked : List ℕ → List ℕ → ℕ → Bool
lead_asked firsts counts k =
    leb 1 (get_or counts k 0)
    && (leb (get_or counts k 0) most_samples
    && (leb 1 (get_or firsts k 0) && leb (get_or firsts k 0 + get_or counts k 0) 4294967296))

-- 17: 1 to 32 leads, in lists of equal length, each by its rule; an order of 0 to 2; step and interval not 0; as many samples as the
-- leads' counts say together
unfoldable pub job_right : Job → Bool
job_right j =
    leb 1 (length j.counts)
    && (leb (length j.counts) most_leads
    && (eqb (length j.firsts) (length j.counts)
    && (eqb (length j.ids) (length j.counts)
    && (all_in 0 (length j.counts) (lead_asked j.firsts j.counts)
    && (leb j.order 2
    && (not (eqb j.step 0) && (not (eqb j.interval 0) && eqb (total j.counts) (length j.samples))))))))

-- the first of 17, 6, 7 and 11 for work space that applies, in that order, and 0 where none does: then streams are looked for. The work
-- space needed is as many bytes as the longest lead has samples, times the number of tables
unfoldable pub job_refusal : Job → ℕ → ℕ
job_refusal j work =
    unless (job_right j) 17
    (unless (section1_right 0 j.section1 0) 6
    (unless (tables_given_right j.section2) 7
    (unless (work_right j.section2 (longest j.counts) work) 11 0)))

-- ---- what is found

-- the samples of the leads, cut by their counts
unfoldable pub cut : List ℕ → List ℤ → List (List ℤ)
cut [] xs = []
cut (c ∷ cs) xs = take c xs ∷ cut cs (drop c xs)

-- for each lead the shortest stream for its differences, or that there is none
pub data SearchFindsAll (s2 : List ℕ) (order : ℕ) : List (List ℤ) → List (Option (List ℕ)) → Type 0 where
  done : SearchFindsAll s2 order [] []
  lead : {xs : List ℤ} {xss : List (List ℤ)} {found : Option (List ℕ)} {founds : List (Option (List ℕ))} →
      SearchFinds (tables_given s2) (differences order xs) found → SearchFindsAll s2 order xss founds → SearchFindsAll s2 order (xs ∷ xss) (found ∷ founds)

-- a lead's stream, packed into bytes, before the packed streams of the leads after it; none where one of these has none
abbrev pub with_stream : List ℕ → Option (List (List ℕ)) → Option (List (List ℕ))
with_stream bs none = none
with_stream bs (some streams) = some (packed bs ∷ streams)

-- the streams of all leads, packed into bytes; none where some lead has none
unfoldable pub packed_all : List (Option (List ℕ)) → Option (List (List ℕ))
packed_all [] = some []
packed_all (none ∷ founds) = none
packed_all (some bs ∷ founds) = with_stream bs (packed_all founds)

-- every stream has at most 65,535 bytes
unfoldable pub all_short : List (List ℕ) → Bool
all_short streams = every (λ stream. leb (length stream) most_stream_bytes) streams

-- ---- the record

-- the record: Section 1's and Section 2's data as the job has them, Section 3's and Section 6's from its leads and these streams
unfoldable pub record_of : Job → List (List ℕ) → List ℕ
record_of j streams =
    record_bytes j.version j.section1 j.section2 (leads_data j.flags j.firsts j.counts j.ids)
    (streams_data j.step j.interval j.order streams)

-- 15 where some lead has no stream; 16 where a stream has over 65,535 bytes, or the record over 1,048,576; 11 where
-- the output has no room for the record
unfoldable pub record_refusal : Job → ℕ → Option (List (List ℕ)) → ℕ
record_refusal j room none = 15
record_refusal j room (some streams) =
    unless (all_short streams && leb (length (record_of j streams)) most_bytes) 16
    (unless (leb (length (record_of j streams)) room) 11 0)

-- a refusal is its number and nothing else; else the record's length is answered. The case `zero none` is never
-- met: without a stream the number is 15
abbrev pub written_as : Job → ℕ → Option (List (List ℕ)) → Written
written_as j zero (some streams) = record { refusal = 0; bytes = length (record_of j streams) }
written_as j zero none = record { refusal = 0; bytes = 0 }
written_as j (suc n) streams = record { refusal = suc n; bytes = 0 }

-- the output: it begins with the record, and is as it was behind it; a refusal changes nothing. The case `zero none` is never
-- met: without a stream the number is 15
abbrev pub record_out : Job → ℕ → Option (List (List ℕ)) → List ℕ → List ℕ
record_out j zero (some streams) out = record_of j streams ++ drop (length (record_of j streams)) out
record_out j zero none out = out
record_out j (suc n) streams out = out

-- what writing a job answers, and the work space and the output afterwards: refused before streams are looked for, or by what is found
pub data RecordWriting (j : Job) (work out : List ℕ) : Written → List ℕ → List ℕ → Type 0 where
  refused : (n : ℕ) → job_refusal j (length work) ≡ suc n → RecordWriting j work out (written_as j (suc n) none) work out
  answered : (founds : List (Option (List ℕ))) → job_refusal j (length work) ≡ 0 →
      SearchFindsAll j.section2 j.order (cut j.counts j.samples) founds →
      RecordWriting j work out (written_as j (record_refusal j (length out) (packed_all founds)) (packed_all founds)) (work_searched j.section2 work)
      (record_out j (record_refusal j (length out) (packed_all founds)) (packed_all founds) out)
