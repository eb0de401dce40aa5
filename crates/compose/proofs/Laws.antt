-- The conditions on a job, the leads' samples and streams, and the record's parts. Assumes nothing.
use Prim.Native.Nat.{ℕ, suc, ◌+◌, ◌-◌, ◌*◌, ◌<◌, ◌≤◌, max}
use mathlib.Core.Path.{◌≡◌, refl, sym, ap, ◌∙◌}
use mathlib.Core.Bool.{Bool, true, false, not, ◌&&◌, cond, and-eq-true_iff}
use mathlib.Core.List.{List, [], ◌∷◌}
use native.Mathlib.Omega.{arith}
use borrow.Author.Tests.{leb-true, leb-false, eqb-true}
use lib.Dec.{leb, eqb}
use lib.ListN.{length, get_or, drop}
use lib.Seq.{drop-cons}
use Rattle.std.specs.Option.{unwrap_or}
use Rattle.std.specs.List.{fold, reduce, sum_by}
use Rattle.std.proofs.lemmas.List.Recursion.{is_sum_by}
use Rattle.wire.specs.RuleWords.{all_in}
use Rattle.wire.proofs.Laws.{all_at, kept_first}
use Rattle.header.specs.Header.{section1_right}
use Rattle.encode.specs.Encoding.{tables_given, tables_given_right, work_right}
use Rattle.compose.specs.Writing.{Job, total, longest, lead_asked, job_right, job_refusal}
use Rattle.compose.specs.InnerJob.{Sound, Listed}

-- ---- what is asked

-- the counts from one place before i on
pub back_cons : (counts : List ℕ) (i : ℕ) → 0 < i → i ≤ length counts → drop (i - 1) counts ≡ get_or counts (i - 1) 0 ∷ drop i counts
back_cons counts i h g =
    let e : suc (i - 1) ≡ i = omega arith in
    drop-cons counts (i - 1) 0 (omega arith) ∙ ap (λ (j : ℕ). get_or counts (i - 1) 0 ∷ drop j counts) e

pub total_sum : (counts : List ℕ) → sum_by (λ x. x) counts ≡ total counts
unfolding total
total_sum counts = sym (is_sum_by total (λ x. x) refl (λ _ _. refl) counts)

pub total_most : (counts : List ℕ) (top : ℕ) → ((k : ℕ) → get_or counts k 0 ≤ top) → total counts ≤ length counts * top
unfolding total
total_most [] top h = omega arith
total_most (c ∷ counts) top h =
    let first : c ≤ top = h 0 in
    let rest = total_most counts top (λ k. h (suc k)) in
    omega arith

-- the largest of the counts and a number
fold_longest : (counts : List ℕ) (n : ℕ) → fold max n counts ≡ max n (longest counts)
unfolding longest
fold_longest [] n = omega arith
fold_longest (c ∷ counts) n = fold_longest counts (max n c) ∙ go (leb (longest counts) c) refl
  where
    go : (b : Bool) → leb (longest counts) c ≡ b → max (max n c) (longest counts) ≡ max n (cond b c (longest counts))
    go true e = omega (arith, leb-true (longest counts) c e)
    go false e = omega (arith, leb-false (longest counts) c e)

pub longest_reduce : (counts : List ℕ) → unwrap_or (reduce max counts) 0 ≡ longest counts
unfolding longest
longest_reduce [] = refl
longest_reduce (c ∷ counts) = fold_longest counts c ∙ go (leb (longest counts) c) refl
  where
    go : (b : Bool) → leb (longest counts) c ≡ b → max c (longest counts) ≡ cond b c (longest counts)
    go true e = omega (arith, leb-true (longest counts) c e)
    go false e = omega (arith, leb-false (longest counts) c e)

-- ---- nothing is refused before the search

-- each lead's count is in its bounds
asked_at : (firsts counts : List ℕ) → all_in 0 (length counts) (lead_asked firsts counts) ≡ true → (k : ℕ) → k < length counts
    → (1 ≤ get_or counts k 0) × (get_or counts k 0 ≤ 65536)
unfolding lead_asked
asked_at firsts counts t k h =
    let n = get_or counts k 0 in
    let ends = leb 1 (get_or firsts k 0) && leb (get_or firsts k 0 + n) 4294967296 in
    let a = (and-eq-true_iff (leb 1 n) (leb n 65536 && ends)).0 (all_at (lead_asked firsts counts) 0 (length counts) t k (omega arith) h) in
    (leb-true 1 n a.0, leb-true n 65536 ((and-eq-true_iff (leb n 65536) ends).0 a.1).0)

longest_most : (counts : List ℕ) (m : ℕ) → ((k : ℕ) → k < length counts → get_or counts k 0 ≤ m) → longest counts ≤ m
unfolding longest
longest_most [] m h = omega arith
longest_most (c ∷ counts) m h = go (longest_most counts m (λ k l. h (suc k) (omega arith))) (leb (longest counts) c)
  where
    go : longest counts ≤ m → (b : Bool) → cond b c (longest counts) ≤ m
    go l true = h 0 (omega arith)
    go l false = l

-- what 17 says of the job, where it does not apply
right_says : (j : Job) → job_right j ≡ true
    → (length j.counts ≤ 32) × (length j.firsts ≡ length j.counts) × (length j.ids ≡ length j.counts) × (j.order ≤ 2)
    × (total j.counts ≡ length j.samples) × (all_in 0 (length j.counts) (lead_asked j.firsts j.counts) ≡ true)
unfolding job_right
right_says j t =
    let n = length j.counts in
    let last = eqb (total j.counts) (length j.samples) in
    let step = not (eqb j.step 0) in
    let interval = not (eqb j.interval 0) in
    let leads = all_in 0 n (lead_asked j.firsts j.counts) in
    let many = leb n 32 in
    let firsts = eqb (length j.firsts) n in
    let ids = eqb (length j.ids) n in
    let order = leb j.order 2 in
    let a = (and-eq-true_iff (leb 1 n) (many && (firsts && (ids && (leads && (order && (step && (interval && last)))))))).0 t in
    let b = (and-eq-true_iff many (firsts && (ids && (leads && (order && (step && (interval && last))))))).0 a.1 in
    let c = (and-eq-true_iff firsts (ids && (leads && (order && (step && (interval && last)))))).0 b.1 in
    let d = (and-eq-true_iff ids (leads && (order && (step && (interval && last))))).0 c.1 in
    let e = (and-eq-true_iff leads (order && (step && (interval && last)))).0 d.1 in
    let f = (and-eq-true_iff order (step && (interval && last))).0 e.1 in
    let g = (and-eq-true_iff step (interval && last)).0 f.1 in
    let h = (and-eq-true_iff interval last).0 g.1 in (
      leb-true n 32 b.0,
      eqb-true (length j.firsts) n c.0,
      eqb-true (length j.ids) n d.0,
      leb-true j.order 2 f.0,
      eqb-true (total j.counts) (length j.samples) h.1,
      e.0,
    )

-- the streams are looked for
module _ (j : Job) (work : ℕ) (z : job_refusal j work ≡ 0) where
  passes : (job_right j ≡ true) × (tables_given_right j.section2 ≡ true) × (longest j.counts * length (tables_given j.section2) ≤ work)
  unfolding job_refusal work_right
  passes =
      let enough = leb (longest j.counts * length (tables_given j.section2)) work in
      let a = kept_first (job_right j) 16 _ z in
      let b = kept_first (section1_right 0 j.section1 0) 5 _ a.1 in
      let c = kept_first (tables_given_right j.section2) 6 _ b.1 in
      let d = kept_first enough 10 0 c.1 in
      (a.0, c.0, leb-true (longest j.counts * length (tables_given j.section2)) work d.0)

  pub job_sound : Sound j work × (length j.counts ≤ 32) × (j.order ≤ 2)
  job_sound =
      let r = right_says j passes.0 in
      let most = longest_most j.counts 65536 (λ k l. (asked_at j.firsts j.counts r.5 k l).1) in
      ((passes.1, most, passes.2, r.4), r.0, r.3)

  pub job_listed : Listed j
  job_listed = let r = right_says j passes.0 in (r.1, r.2, r.0, λ k l. (asked_at j.firsts j.counts r.5 k l).0)
