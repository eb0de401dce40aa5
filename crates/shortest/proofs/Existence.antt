-- Where there is a stream there is a shortest one: the streams of each length are tried in the order of their first differing bit,
-- shorter ones first. So the promise is not empty, whatever the tables are. Assumes nothing.
use Prim.Native.Nat.{ℕ, zero, suc, ◌≤◌, ◌<◌}
use mathlib.Core.Path.{◌≡◌, refl, ap, ◌∙◌}
use mathlib.Core.Bool.{Bool, true, false, ◌&&◌}
use mathlib.Core.List.{List, [], ◌∷◌}
use mathlib.Core.Logic.{◌⊎◌, inl, inr, ⊎_elim}
use borrow.Author.Count.{below_more}
use native.Mathlib.Decide.{dec_le}
use native.Mathlib.Omega.{arith}
use lib.IntN.{ℤ}
use lib.ListN.{length}
use Rattle.wire.proofs.Laws.{unlike}
use Rattle.bits.proofs.Laws.{Small}
use Rattle.tables.specs.declared.Structure.{Structure}
use Rattle.reading.specs.Reading.{Next, gave, stuck, read_next}
use Rattle.paths.specs.Before.{Before, here, there}
use Rattle.shortest.specs.Shortest.{ReadsTo, done, value, Stream, Shortest, NoStream}
use Rattle.shortest.specs.InnerRule.{equal}
use Rattle.shortest.proofs.Laws.{equal_true, equal_self, bits_small, small_bits}

-- ---- the first list of bits, of some length, that passes a test

record Found (P : List ℕ → Bool) (n : ℕ) : Type 0 where
  pub s : List ℕ
  pub small : Small s
  pub long : length s ≡ n
  pub passes : P s ≡ true
  pub first : (other : List ℕ) → Small other → length other ≡ n → P other ≡ true → (s ≡ other) ⊎ Before s other

abbrev Never : (List ℕ → Bool) → ℕ → Type 0
Never P n = (other : List ℕ) → Small other → length other ≡ n → P other ≡ true → ⊥

-- what passes begins with 0 or 1
by_first : (C : List ℕ → Type 0) (n : ℕ) → ((l : List ℕ) → Small l → length l ≡ n → C (0 ∷ l))
    → ((l : List ℕ) → Small l → length l ≡ n → C (1 ∷ l)) → (l : List ℕ) → Small l → length l ≡ suc n → C l
by_first C n zeros ones [] small e = absurd (omega arith)
by_first C n zeros ones (zero ∷ l) small e = zeros l (λ i. small (suc i)) (omega arith)
by_first C n zeros ones (suc zero ∷ l) small e = ones l (λ i. small (suc i)) (omega arith)
by_first C n zeros ones (suc (suc b) ∷ l) small e = absurd (omega (arith, small 0))

small_cons : (b : ℕ) (l : List ℕ) → b < 2 → Small l → Small (b ∷ l)
small_cons b l h small zero = h
small_cons b l h small (suc i) = small i

module _ (P : List ℕ → Bool) (n : ℕ) where
  found_zero : Found (λ l. P (0 ∷ l)) n → Found P (suc n)
  found_zero f = record {
    s = 0 ∷ f.s;
    small = small_cons 0 f.s (omega arith) f.small;
    long = ap suc f.long;
    passes = f.passes;
    first = by_first (λ other. P other ≡ true → (0 ∷ f.s ≡ other) ⊎ Before (0 ∷ f.s) other) n
        (λ l small e p. ⊎_elim (λ q. inl (ap (λ (x : List ℕ). 0 ∷ x) q)) (λ q. inr (there q)) (f.first l small e p))
        (λ l small e p. inr (here (omega arith)));
  }

  found_one : Never (λ l. P (0 ∷ l)) n → Found (λ l. P (1 ∷ l)) n → Found P (suc n)
  found_one never f = record {
    s = 1 ∷ f.s;
    small = small_cons 1 f.s (omega arith) f.small;
    long = ap suc f.long;
    passes = f.passes;
    first = by_first (λ other. P other ≡ true → (1 ∷ f.s ≡ other) ⊎ Before (1 ∷ f.s) other) n
        (λ l small e p. absurd (never l small e p))
        (λ l small e p. ⊎_elim (λ q. inl (ap (λ (x : List ℕ). 1 ∷ x) q)) (λ q. inr (there q)) (f.first l small e p));
  }

  never_both : Never (λ l. P (0 ∷ l)) n → Never (λ l. P (1 ∷ l)) n → Never P (suc n)
  never_both zeros ones = by_first (λ other. P other ≡ true → ⊥) n zeros ones

try_empty : (P : List ℕ → Bool) → Found P 0 ⊎ Never P 0
try_empty P = go (P []) refl
  where
    only : (l : List ℕ) → length l ≡ 0 → [] ≡ l
    only [] e = refl
    only (b ∷ l) e = absurd (omega arith)

    go : (b : Bool) → P [] ≡ b → Found P 0 ⊎ Never P 0
    go true e = inl (record { s = []; small = λ i. omega arith; long = refl; passes = e; first = λ other small l p. inl (only other l) })
    go false e = inr (λ other small l p. let q : P [] ≡ true = ap P (only other l) ∙ p in unlike cc)

try : (n : ℕ) (P : List ℕ → Bool) → Found P n ⊎ Never P n
try zero P = try_empty P
try (suc n) P =
    ⊎_elim (λ f. inl (found_zero P n f)) (λ zeros. ⊎_elim (λ f. inl (found_one P n zeros f)) (λ ones. inr (never_both P n zeros ones))
    (try n (λ l. P (1 ∷ l)))) (try n (λ l. P (0 ∷ l)))

-- the first length below n at which one passes
record Least (P : List ℕ → Bool) : Type 0 where
  pub n : ℕ
  pub found : Found P n
  pub shorter : (m : ℕ) → m < n → Never P m

least : (P : List ℕ → Bool) (n : ℕ) → Least P ⊎ ((m : ℕ) → m < n → Never P m)
least P zero = inr (λ m h. absurd (omega arith))
least P (suc n) =
    ⊎_elim inl (λ below.
    ⊎_elim
    (λ f. inl (record { n = n; found = f; shorter = below }))
    (λ never. inr (λ m h. below_more _ n below never m (omega arith)))
    (try n P))
    (least P n)

-- ---- the test: the rule takes the bits to these values

abbrev pub onward : (ℕ → List ℕ → Bool) → ℤ → Next → Bool
onward go_on v (gave x table bs) = equal x v && go_on table bs
onward go_on v stuck = false

unfoldable pub reads_it : List (List Structure) → List ℤ → ℕ → List ℕ → Bool
reads_it tables [] t [] = true
reads_it tables [] t (b ∷ bs) = false
reads_it tables (v ∷ vs) t bs = onward (reads_it tables vs) v (read_next tables t bs)

reads_passes : (tables : List (List Structure)) {t : ℕ} {bs : List ℕ} {vs : List ℤ} → ReadsTo tables t bs vs → reads_it tables vs t bs ≡ true
unfolding reads_it
reads_passes tables done = refl
reads_passes tables (value {v = v} h r) = rw (h, equal_self v) (reads_passes tables r)

pub passes_reads : (tables : List (List Structure)) (vs : List ℤ) (t : ℕ) (bs : List ℕ) → reads_it tables vs t bs ≡ true
    → ReadsTo tables t bs vs
unfolding reads_it
passes_reads tables [] t [] h = done
passes_reads tables [] t (b ∷ bs) h = unlike cc
passes_reads tables (v ∷ vs) t bs h = go (read_next tables t bs) refl h (passes_reads tables vs)
  where
    both : (x : ℤ) (next : ℕ) (rest : List ℕ) (b : Bool) → equal x v ≡ b → read_next tables t bs ≡ gave x next rest
        → b && reads_it tables vs next rest ≡ true
        → ((t : ℕ) (bs : List ℕ) → reads_it tables vs t bs ≡ true → ReadsTo tables t bs vs) → ReadsTo tables t bs (v ∷ vs)
    both x next rest true e q g others = value (q ∙ ap (λ (z : ℤ). gave z next rest) (equal_true x v e)) (others next rest g)
    both x next rest false e q g others = unlike cc

    go : (n : Next) → read_next tables t bs ≡ n → onward (reads_it tables vs) v n ≡ true
        → ((t : ℕ) (bs : List ℕ) → reads_it tables vs t bs ≡ true → ReadsTo tables t bs vs) → ReadsTo tables t bs (v ∷ vs)
    go (gave x next rest) q g others = both x next rest (equal x v) refl q g others
    go stuck q g others = unlike cc

-- ---- the shortest stream

module _ (tables : List (List Structure)) (vs : List ℤ) where
  passes : (bs : List ℕ) → Stream tables vs bs → reads_it tables vs 1 bs ≡ true
  passes bs s = reads_passes tables s.reads

  least_shortest : (l : Least (reads_it tables vs 1)) → Shortest tables vs l.found.s
  least_shortest l = record {
    stream = record { bits = small_bits f.s f.small; reads = passes_reads tables vs 1 f.s f.passes };
    fewest = λ other s. rw f.long (no_shorter other s (dec_le l.n (length other)));
    smaller = λ other s e. f.first other (bits_small other s.bits) (e ∙ f.long) (passes other s);
  }
    where
      f : Found (reads_it tables vs 1) l.n
      f = l.found

      no_shorter : (other : List ℕ) → Stream tables vs other → Dec (l.n ≤ length other) → l.n ≤ length other
      no_shorter other s (yes h) = h
      no_shorter other s (no h) = absurd (l.shorter (length other) (omega arith) other (bits_small other s.bits) refl (passes other s))

  pub shortest_there : (bs : List ℕ) → Stream tables vs bs → (s : List ℕ) × Shortest tables vs s
  shortest_there bs s =
      ⊎_elim
      (λ l. (l.found.s, least_shortest l))
      (λ never. absurd (never (length bs) (omega arith) bs (bits_small bs s.bits) refl (passes bs s)))
      (least (reads_it tables vs 1) (suc (length bs)))

  -- there is not both a shortest stream and no stream
  pub shortest_some : (bs : List ℕ) → Shortest tables vs bs → NoStream tables vs → ⊥
  shortest_some bs s never = never bs s.stream
