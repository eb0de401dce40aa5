-- The facts of a job that the writer accepts, and the streams found for its leads. Assumes nothing.
use Prim.Native.Nat.{ℕ, zero, suc, ◌+◌, ◌≤◌, ◌<◌}
use mathlib.Core.Path.{◌≡◌, refl, ap}
use mathlib.Core.Bool.{Bool, true, false, not, ◌||◌, cond, and-eq-true_iff}
use mathlib.Core.List.{List, [], ◌∷◌}
use mathlib.Core.Option.{Option, none, some}
use native.Mathlib.Omega.{arith}
use borrow.Author.Tests.{leb-true, eqb-true, eqb-false, not-true}
use lib.Dec.{leb, eqb}
use lib.IntN.{ℤ}
use lib.ListN.{length, get_or, take, drop, length-take, length-drop}
use Rattle.wire.specs.RuleWords.{all_in, every}
use Rattle.wire.proofs.Laws.{all_at, unlike}
use Rattle.tables.specs.Default.{default_table}
use Rattle.tables.specs.Section2.{is_default, table_count, tables_from, tables_in, table_right, section2_right}
use Rattle.tables.proofs.Laws.{length_tables, own_tables}
use Rattle.tables.proofs.Default.{default_right}
use Rattle.samples.specs.Differences.{differences}
use Rattle.samples.specs.Trace.{fits16}
use Rattle.packing.specs.Packing.{packed}
use Rattle.shortest.specs.Shortest.{Stream}
use Rattle.encode.specs.Encoding.{tables_given, tables_given_right}
use Rattle.compose.specs.Writing.{Job, total, lead_asked, job_right, cut, SearchFindsAll, done, lead, with_stream, packed_all}
use Rattle.trip.proofs.Entries.{Asked}

-- ---- rule 17

pub record Right (j : Job) : Type 0 where
  pub some : 1 ≤ length j.counts
  pub most : length j.counts ≤ 32
  pub firsts : length j.firsts ≡ length j.counts
  pub ids : length j.ids ≡ length j.counts
  pub leads : (k : ℕ) → k < length j.counts → Asked j.firsts j.counts k
  pub order : j.order ≤ 2
  pub step : j.step ≡ 0 → ⊥
  pub interval : j.interval ≡ 0 → ⊥
  pub total : total j.counts ≡ length j.samples

lead_asked_lem : (firsts counts : List ℕ) (k : ℕ) → lead_asked firsts counts k ≡ true → Asked firsts counts k
unfolding lead_asked
lead_asked_lem firsts counts k h =
    let c = get_or counts k 0 in
    let f = get_or firsts k 0 in
    let p = (and-eq-true_iff (leb 1 c) _).0 h in
    let q = (and-eq-true_iff (leb c 65536) _).0 p.1 in
    let w = (and-eq-true_iff (leb 1 f) _).0 q.1 in
    record {
      some = leb-true 1 c p.0;
      most = leb-true c 65536 q.0;
      first = leb-true 1 f w.0;
      last = leb-true (f + c) 4294967296 w.1;
    }

pub job_right_lem : (j : Job) → job_right j ≡ true → Right j
unfolding job_right
job_right_lem j h =
    let n = length j.counts in
    let h1 = (and-eq-true_iff (leb 1 n) _).0 h in
    let h2 = (and-eq-true_iff (leb n 32) _).0 h1.1 in
    let h3 = (and-eq-true_iff (eqb (length j.firsts) n) _).0 h2.1 in
    let h4 = (and-eq-true_iff (eqb (length j.ids) n) _).0 h3.1 in
    let h5 = (and-eq-true_iff (all_in 0 n (lead_asked j.firsts j.counts)) _).0 h4.1 in
    let h6 = (and-eq-true_iff (leb j.order 2) _).0 h5.1 in
    let h7 = (and-eq-true_iff (not (eqb j.step 0)) _).0 h6.1 in
    let h8 = (and-eq-true_iff (not (eqb j.interval 0)) _).0 h7.1 in
    record {
      some = leb-true 1 n h1.0;
      most = leb-true n 32 h2.0;
      firsts = eqb-true (length j.firsts) n h3.0;
      ids = eqb-true (length j.ids) n h4.0;
      leads = λ k g.
          lead_asked_lem j.firsts j.counts k (all_at (lead_asked j.firsts j.counts) 0 n h5.0 k (omega arith) g);
      order = leb-true j.order 2 h6.0;
      step = eqb-false j.step 0 (not-true (eqb j.step 0) h7.0);
      interval = eqb-false j.interval 0 (not-true (eqb j.interval 0) h8.0);
      total = eqb-true (total j.counts) (length j.samples) h8.1;
    }

-- ---- rule 7

-- the tables that data mean are right where the data keep their rule
pub meant_right : (spare : ℕ) (s : List ℕ) (at : ℕ) → section2_right spare s at ≡ true
    → every (table_right (length (tables_in s at))) (tables_in s at) ≡ true
unfolding tables_in every
meant_right spare s at g = own (is_default s at) refl
  where
    own : (b : Bool) → is_default s at ≡ b
        → every (table_right (length (cond b (default_table ∷ []) (tables_from s (at + 2) (table_count s at)))))
        (cond b (default_table ∷ []) (tables_from s (at + 2) (table_count s at))) ≡ true
    own true e = rw default_right
    own false e = rw (length_tables s (at + 2) (table_count s at)) (own_tables spare s at g e).right

-- given tables are right
pub given_right : (s : List ℕ) → tables_given_right s ≡ true → every (table_right (length (tables_given s))) (tables_given s) ≡ true
unfolding tables_given_right tables_given every
given_right s g = go (eqb (length s) 0) g
  where
    go : (b : Bool) → b || section2_right 0 s 0 ≡ true → every (table_right (length (cond b [] (tables_in s 0)))) (cond b [] (tables_in s 0)) ≡ true
    go true g = refl
    go false g = meant_right 0 s 0 g

-- ---- the samples of the leads

pub length_cut : (counts : List ℕ) (xs : List ℤ) → length (cut counts xs) ≡ length counts
unfolding cut
length_cut [] xs = refl
length_cut (c ∷ counts) xs = ap suc (length_cut counts (drop c xs))

-- a lead has as many samples as its count says
pub cut_count : (counts : List ℕ) (xs : List ℤ) → total counts ≡ length xs → (k : ℕ) → k < length counts
    → length (get_or (cut counts xs) k []) ≡ get_or counts k 0
unfolding cut total
cut_count [] xs e k h = absurd (omega arith)
cut_count (c ∷ counts) xs e zero h = rw (length-take c xs) (omega arith)
cut_count (c ∷ counts) xs e (suc k) h = cut_count counts (drop c xs) (omega (arith, length-drop c xs)) k (omega arith)

-- each of them fits 16 bits where all samples do
take_fits : (n : ℕ) (xs : List ℤ) → every fits16 xs ≡ true → every fits16 (take n xs) ≡ true
unfolding every
take_fits zero xs h = refl
take_fits (suc n) [] h = refl
take_fits (suc n) (x ∷ xs) h =
    let p = (and-eq-true_iff (fits16 x) (every fits16 xs)).0 h in
    rw p.0 (take_fits n xs p.1)

drop_fits : (n : ℕ) (xs : List ℤ) → every fits16 xs ≡ true → every fits16 (drop n xs) ≡ true
unfolding every
drop_fits zero xs h = h
drop_fits (suc n) [] h = refl
drop_fits (suc n) (x ∷ xs) h = drop_fits n xs ((and-eq-true_iff (fits16 x) (every fits16 xs)).0 h).1

pub cut_fits : (counts : List ℕ) (xs : List ℤ) → every fits16 xs ≡ true → (k : ℕ) → every fits16 (get_or (cut counts xs) k []) ≡ true
unfolding cut every
cut_fits [] xs h k = refl
cut_fits (c ∷ counts) xs h zero = take_fits c xs h
cut_fits (c ∷ counts) xs h (suc k) = cut_fits counts (drop c xs) (drop_fits c xs h) k

-- ---- the streams found

-- there are streams for all leads, so for the first, and for the others
record Cons (bs : List ℕ) (founds : List (Option (List ℕ))) (streams : List (List ℕ)) : Type 0 where
  others : List (List ℕ)
  rest : packed_all founds ≡ some others
  split : streams ≡ packed bs ∷ others

streams_cons : (bs : List ℕ) (founds : List (Option (List ℕ))) (streams : List (List ℕ)) → with_stream bs (packed_all founds) ≡ some streams
    → Cons bs founds streams
streams_cons bs founds streams h = go (packed_all founds) refl h
  where
    go : (o : Option (List (List ℕ))) → packed_all founds ≡ o → with_stream bs o ≡ some streams → Cons bs founds streams
    go none e g = unlike cc
    go (some others) e g = record { others = others; rest = e; split = cc }

-- a stream for each lead
pub found_length : (s2 : List ℕ) (order : ℕ) {xss : List (List ℤ)} {founds : List (Option (List ℕ))} (streams : List (List ℕ))
    → SearchFindsAll s2 order xss founds → packed_all founds ≡ some streams → length streams ≡ length xss
unfolding packed_all
found_length s2 order streams done h = let e : [] ≡ streams = cc in rw (← e)
found_length s2 order streams (lead {found = none} f all) h = unlike cc
found_length s2 order streams (lead {found = some bs} {founds = founds} f all) h =
    let c = streams_cons bs founds streams h in
    rw c.split (ap suc (found_length s2 order c.others all c.rest))

-- the record's stream for lead k
pub record Lead (s2 : List ℕ) (order : ℕ) (xs : List ℤ) (stream : List ℕ) : Type 0 where
  pub bits : List ℕ
  pub reads : Stream (tables_given s2) (differences order xs) bits
  pub bytes : stream ≡ packed bits

pub found_at : (s2 : List ℕ) (order : ℕ) {xss : List (List ℤ)} {founds : List (Option (List ℕ))} (streams : List (List ℕ))
    → SearchFindsAll s2 order xss founds → packed_all founds ≡ some streams → (k : ℕ) → k < length xss
    → Lead s2 order (get_or xss k []) (get_or streams k [])
unfolding packed_all
found_at s2 order streams done h k l = absurd (omega arith)
found_at s2 order streams (lead {found = none} f all) h k l = unlike cc
found_at s2 order streams (lead {xs = xs} {found = some bs} {founds = founds} f all) h zero l =
    let c = streams_cons bs founds streams h in
    record { bits = bs; reads = f.stream; bytes = ap (λ (ss : List (List ℕ)). get_or ss 0 []) c.split }
found_at s2 order streams (lead {xss = xss} {found = some bs} {founds = founds} f all) h (suc k) l =
    let c = streams_cons bs founds streams h in
    rw c.split (found_at s2 order c.others all c.rest k (omega arith))
