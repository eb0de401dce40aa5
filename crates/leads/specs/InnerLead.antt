-- The conditions and the answers of the functions that read a lead. No public contract rests on this.
use Rattle.std.specs.Prelude.{ℕ, ◌≤◌, ◌<◌, ◌≡◌, Bool, true, false, List, ℤ, pos, length, replicate, Result, IfOk}
use Rattle.rules.specs.LeadRules.{tables_right, lead_count_of, beat_subtracted, beat_sample_count, beat_right}
use Rattle.refusals.specs.declared.Refusal.{Refusal}
use Rattle.leads.specs.LeadTrace.{sample_count_at}

-- lead k can be read with `work` elements of work space: its tables and its beat were judged, and it is there
pub record Readable (r : List ℕ) (k work : ℕ) : Type 0 where
  pub tables : tables_right r ≡ true
  pub beat : beat_right r ≡ true
  pub place : k < lead_count_of r
  pub leads : lead_count_of r ≤ 32
  pub count : sample_count_at r k ≤ 65536
  pub beat_room : beat_subtracted r ≡ true → beat_sample_count r ≤ work

-- the work space where a beat was read, and where none was
abbrev pub cleared_if : Bool → List ℤ → List ℤ
cleared_if true work = replicate (length work) (pos 0)
cleared_if false work = work

-- 64 for each bit of the longest record: no more structures are compared for a stream
abbrev pub most_sum : ℕ
most_sum = 536870912

-- where nothing was refused so many structures were compared, and never more than `most`
abbrev pub Summed : ℕ → ℕ → Result ℕ Refusal → Type 0
Summed n most r = IfOk r (λ compared. (compared ≡ n) × (compared ≤ most))
