-- Sections that fit still do where some behind the twelfth pointer are left out, or where their bytes are changed soundly. Assumes nothing.
use Prim.Native.Nat.{ℕ, zero, suc, ◌+◌, ◌≤◌, ◌<◌}
use mathlib.Core.Path.{◌≡◌, refl, ap, ◌∙◌}
use mathlib.Core.Bool.{Bool, true, false, cond, and-eq-true_iff}
use mathlib.Core.List.{List, [], ◌∷◌}
use native.Mathlib.Omega.{arith}
use native.Mathlib.Decide.{dec_lt}
use borrow.Author.Tests.{ltb-true, eqb-true, lt-ltb, le-ltb}
use lib.ListN.{length, length-map}
use Rattle.wire.specs.RuleWords.{every}
use Rattle.sections.specs.Sections.{Section, nth, usable, total_length, size_for, rising, Fit}
use Rattle.sections.specs.Chosen.{keeping, changed, changing}
use Rattle.sections.proofs.Listed.{id_rule, rising_parts}

-- ---- the rule of one ID

rule_low : (k before id : ℕ) → k < 12 → id_rule k before id ≡ true → id ≡ k
rule_low k before id h t = eqb-true id k (rw (lt-ltb k 12 h) at t)

rule_high : (k before id : ℕ) → 12 ≤ k → id_rule k before id ≡ true → before < id
rule_high k before id h t = ltb-true before id (rw (le-ltb k 12 h) at t)

high_rule : (k before id : ℕ) → 12 ≤ k → before < id → id_rule k before id ≡ true
high_rule k before id h l = rw (le-ltb k 12 h, lt-ltb before id l)

parts_rising : (k before : ℕ) (s : Section) (ss : List Section) → id_rule k before s.id ≡ true → s.id < 65536
    → rising (k + 1) s.id ss ≡ true → rising k before (s ∷ ss) ≡ true
unfolding rising
parts_rising k before s ss a b c = rw (a, lt-ltb s.id 65536 b, c)

rising_none : (k before : ℕ) → rising k before [] ≡ true
unfolding rising
rising_none k before = refl

-- ---- some left out

module _ (p : ℕ → Bool) where
  -- behind the twelfth pointer any may be left out
  rising_behind : (ss : List Section) (k j before first : ℕ) → 12 ≤ k → 12 ≤ j → first ≤ before → rising k before ss ≡ true
      → rising j first (keeping p ss) ≡ true
  unfolding keeping
  rising_behind [] k j before first a b c t = rising_none j first
  rising_behind (s ∷ ss) k j before first a b c t =
      let q = rising_parts k before s ss t in
      let h = rule_high k before s.id a q.0 in
      go (p s.id) refl q.1 h
      (rising_behind ss (k + 1) (j + 1) s.id s.id (omega arith) (omega arith) (omega arith) q.2)
      (rising_behind ss (k + 1) j s.id first (omega arith) b (omega arith) q.2)
    where
      go : (x : Bool) → p s.id ≡ x → s.id < 65536 → before < s.id → rising (j + 1) s.id (keeping p ss) ≡ true
          → rising j first (keeping p ss) ≡ true → rising j first (cond (p s.id) (s ∷ keeping p ss) (keeping p ss)) ≡ true
      go true e small h on off = rw e (parts_rising j first s (keeping p ss) (high_rule j first s.id b (omega arith)) small on)
      go false e small h on off = rw e off

  -- the rest is no longer, and as usable
  keeping_most : (ss : List Section) → (length (keeping p ss) ≤ length ss) × (total_length (keeping p ss) ≤ total_length ss)
  unfolding keeping total_length
  keeping_most [] = (omega arith, omega arith)
  keeping_most (s ∷ ss) = go (p s.id) (keeping_most ss)
    where
      go : (x : Bool) → (length (keeping p ss) ≤ length ss) × (total_length (keeping p ss) ≤ total_length ss)
          → (length (cond x (s ∷ keeping p ss) (keeping p ss)) ≤ length (s ∷ ss))
          × (total_length (cond x (s ∷ keeping p ss) (keeping p ss)) ≤ total_length (s ∷ ss))
      go true h = (omega (arith, h), omega (arith, h))
      go false h = (omega (arith, h), omega (arith, h))

  keeping_every : (q : Section → Bool) (ss : List Section) → every q ss ≡ true → every q (keeping p ss) ≡ true
  unfolding keeping every
  keeping_every q [] t = refl
  keeping_every q (s ∷ ss) t =
      let w = (and-eq-true_iff (q s) (every q ss)).0 t in
      go (p s.id) w.0 (keeping_every q ss w.1)
    where
      go : (x : Bool) → q s ≡ true → every q (keeping p ss) ≡ true → every q (cond x (s ∷ keeping p ss) (keeping p ss)) ≡ true
      go true a b = rw (a, b)
      go false a b = b

  -- leaving out twice is as once
  pub keeping_twice : (ss : List Section) → keeping p (keeping p ss) ≡ keeping p ss
  unfolding keeping
  keeping_twice [] = refl
  keeping_twice (s ∷ ss) = go (p s.id) refl (keeping_twice ss)
    where
      go : (x : Bool) → p s.id ≡ x → keeping p (keeping p ss) ≡ keeping p ss
          → keeping p (cond (p s.id) (s ∷ keeping p ss) (keeping p ss)) ≡ cond (p s.id) (s ∷ keeping p ss) (keeping p ss)
      go true e later = rw e (rw (e, later))
      go false e later = rw e later

  -- where none of the first twelve is left out, the rest fits
  module _ (keep : (id : ℕ) → id < 12 → p id ≡ true) where
    head_kept : (k before : ℕ) (s : Section) (ss : List Section) → k < 12 → rising k before (s ∷ ss) ≡ true
        → keeping p (s ∷ ss) ≡ s ∷ keeping p ss
    unfolding keeping
    head_kept k before s ss h t =
        let e = rule_low k before s.id h (rising_parts k before s ss t).0 in
        rw (keep s.id (omega arith))

    rising_keeping : (ss : List Section) (k before : ℕ) → k ≤ 12 → rising k before ss ≡ true → rising k before (keeping p ss) ≡ true
    unfolding keeping
    rising_keeping [] k before h t = rising_none k before
    rising_keeping (s ∷ ss) k before h t =
        go (dec_lt k 12) (λ l. rising_keeping ss (k + 1) s.id l (rising_parts k before s ss t).2)
      where
        go : Dec (k < 12) → (k + 1 ≤ 12 → rising (k + 1) s.id (keeping p ss) ≡ true) → rising k before (keeping p (s ∷ ss)) ≡ true
        go (yes l) later =
            let q = rising_parts k before s ss t in
            rw (head_kept k before s ss l t) (parts_rising k before s (keeping p ss) q.0 q.1 (later (omega arith)))
        go (no l) later = rising_behind (s ∷ ss) k k before before (omega arith) (omega arith) (omega arith) t

    length_keeping : (ss : List Section) (k before : ℕ) → k ≤ 12 → 12 ≤ k + length ss → rising k before ss ≡ true
        → 12 ≤ k + length (keeping p ss)
    unfolding keeping
    length_keeping [] k before h l t = omega arith
    length_keeping (s ∷ ss) k before h l t =
        go (dec_lt k 12) (λ g. length_keeping ss (k + 1) s.id g (omega arith) (rising_parts k before s ss t).2)
      where
        go : Dec (k < 12) → (k + 1 ≤ 12 → 12 ≤ k + 1 + length (keeping p ss)) → 12 ≤ k + length (keeping p (s ∷ ss))
        go (yes g) later = omega (arith, later (omega arith), ap length (head_kept k before s ss g t))
        go (no g) later = omega arith

    -- Section 1 stays
    pub first_kept : (ss : List Section) → rising 1 0 ss ≡ true → nth (keeping p ss) 0 ≡ nth ss 0
    unfolding keeping
    first_kept [] t = refl
    first_kept (s ∷ ss) t = rw (head_kept 1 0 s ss (omega arith) t)

    pub keeping_fit : (ss : List Section) → Fit ss → Fit (keeping p ss)
    unfolding size_for
    keeping_fit ss f =
        let m = keeping_most ss in
        record {
          least = length_keeping ss 1 0 (omega arith) f.least f.order;
          most = omega (arith, m, f.most);
          order = rising_keeping ss 1 0 (omega arith) f.order;
          each = keeping_every usable ss f.each;
          first = rw (first_kept ss f.order) f.first;
          small = omega (arith, m, f.small);
        }

-- ---- some changed

module _ (g : ℕ → List ℕ → List ℕ) where
  pub nth_changing : (ss : List Section) (j : ℕ) → j < length ss → nth (changing g ss) j ≡ changed g (nth ss j)
  nth_changing [] j h = absurd (omega arith)
  nth_changing (s ∷ ss) zero h = refl
  nth_changing (s ∷ ss) (suc j) h = nth_changing ss j (omega arith)

  rising_changing : (ss : List Section) (k before : ℕ) → rising k before (changing g ss) ≡ rising k before ss
  unfolding rising
  rising_changing [] k before = refl
  rising_changing (s ∷ ss) k before = rw (rising_changing ss (k + 1) s.id)

  changing_every : (ss : List Section) → ((j : ℕ) → j < length ss → usable (changed g (nth ss j)) ≡ true)
      → every usable (changing g ss) ≡ true
  unfolding every
  changing_every [] h = refl
  changing_every (s ∷ ss) h = rw (h 0 (omega arith), changing_every ss (λ j l. h (suc j) (omega arith)))

  -- changed sections fit, where each stays usable, Section 1 stays present, and the record is not over its bound
  pub changing_fit : (ss : List Section) → Fit ss → ((j : ℕ) → j < length ss → usable (changed g (nth ss j)) ≡ true)
      → 0 < length (nth (changing g ss) 0).bytes → size_for (changing g ss) ≤ 1048576 → Fit (changing g ss)
  changing_fit ss f each first small =
      let n = length-map ss (changed g) in
      record {
        least = omega (arith, n, f.least);
        most = omega (arith, n, f.most);
        order = rising_changing ss 1 0 ∙ f.order;
        each = changing_every ss each;
        first = first;
        small = small;
      }
