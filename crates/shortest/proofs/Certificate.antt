-- A given stream is the shortest, by computation. Costs are made layer by layer and tested to be closed, so that no stream is shorter;
-- the given one is that short; and at each of its codes every other structure costs more, so that no other stream is as short, and
-- there is no tie. Assumes nothing.
use Prim.Native.Nat.{ℕ, zero, suc, ◌+◌, ◌^◌, ◌≤◌, ◌<◌, min}
use mathlib.Core.Path.{◌≡◌, refl, sym, ap, ◌∙◌}
use mathlib.Core.Bool.{Bool, true, false, ◌&&◌, cond, and-eq-true_iff}
use mathlib.Core.List.{List, [], ◌∷◌, ◌++◌}
use mathlib.Core.Logic.{inl}
use native.Mathlib.Omega.{arith}
use borrow.Author.Tests.{leb-true, ltb-true, eqb-true}
use lib.Dec.{leb, eqb}
use lib.IntN.{ℤ, pos}
use lib.ListN.{length, get_or, replicate, get_or-replicate, length-append}
use lib.Pow.{pow_mono}
use lib.Signed.{mag}
use Rattle.wire.specs.RuleWords.{all_in, every}
use Rattle.wire.proofs.Laws.{all_at, unlike}
use Rattle.bits.specs.Bits.{signed}
use Rattle.tables.specs.declared.Structure.{Structure}
use Rattle.tables.specs.Structures.{remainder_of}
use Rattle.tables.specs.Section2.{table_right}
use Rattle.paths.specs.InnerPaths.{Kind, dead, gives, leads, Codes, There, Sound, Reads, done, value, switch}
use Rattle.paths.specs.InnerPaths.{table_behind, values_behind, Alive, cost_behind, cost, Closed}
use Rattle.paths.proofs.Optimal.{lower, split, nothing_left}
use Rattle.shortest.specs.Shortest.{are_bits, Stream, Shortest, NoStream}
use Rattle.shortest.specs.InnerRule.{holds, serves, structure_of, rule}
use Rattle.shortest.proofs.Laws.{base_small, equal_true, gives_value}
use Rattle.shortest.proofs.Bridge.{structure_fine, sound, reads_of}
use Rattle.shortest.proofs.Plain.{plain_none}
use Rattle.shortest.proofs.Existence.{reads_it, passes_reads}

-- ---- costs, computed

-- the cost of a table, by its number; place 0 is not used
abbrev pub at : List ℕ → ℕ → ℕ
at costs t = get_or costs t 0

-- the least of f's first m values, or top
abbrev pub least_of : (ℕ → ℕ) → ℕ → ℕ → ℕ
least_of f zero top = top
least_of f (suc m) top = min (f m) (least_of f m top)

-- f at n numbers, from i on
abbrev pub values_from : (ℕ → ℕ) → ℕ → ℕ → List ℕ
values_from f i zero = []
values_from f i (suc n) = f i ∷ values_from f (suc i) n

module _ {A : Type 0} (G : Codes A) (cap : ℕ) where
  -- each table's cost made as small as its structures make it, in this many rounds
  abbrev pub rounds : ℕ → List ℕ → A → List ℕ → List ℕ
  rounds zero next v cur = cur
  rounds (suc n) next v cur =
      rounds n next v
      (0 ∷ values_from (λ t. least_of (cost G cap (at next) (at cur) v t) (G.count t) (at cur t)) 1 G.tables)

  -- no structure of any table makes its cost smaller
  abbrev pub is_closed : List ℕ → List ℕ → A → Bool
  is_closed next cur v =
      all_in 1 (suc G.tables) (λ t. all_in 0 (G.count t) (λ k. leb (at cur t) (cost G cap (at next) (at cur) v t k)))

  -- the costs from the first of the values on, and whether every layer's are closed
  abbrev pub costs_of : List A → List ℕ × Bool
  costs_of [] = (replicate (suc G.tables) 0, true)
  costs_of (v ∷ vs) =
      let later : List ℕ × Bool = costs_of vs in
      let cur : List ℕ = rounds G.tables later.0 v (replicate (suc G.tables) (suc cap)) in
      (cur, is_closed later.0 cur v && later.1)

  closed_at : (next cur : List ℕ) (v : A) → is_closed next cur v ≡ true → (t : ℕ) → There G t → Closed G cap (at next) (at cur) v t
  closed_at next cur v h t ht k hk =
      let f : ℕ → ℕ → Bool = λ u j. leb (at cur u) (cost G cap (at next) (at cur) v u j) in
      let own = all_at (λ u. all_in 0 (G.count u) (f u)) 1 (suc G.tables) h t ht.0 (omega arith) in
      leb-true (at cur t) (cost G cap (at next) (at cur) v t k) (all_at (f t) 0 (G.count t) own k (omega arith) hk)

  -- no stream costs less
  costs_low : Sound G → (vs : List A) → (costs_of vs).1 ≡ true → (t : ℕ) (s : List ℕ) → There G t → Reads G t s vs
      → at (costs_of vs).0 t ≤ min cap (length s)
  costs_low W [] h t s ht r = omega (arith, get_or-replicate {A = ℕ} (suc G.tables) t 0 0 (omega arith))
  costs_low W (v ∷ vs) h t s ht r =
      let next = (costs_of vs).0 in
      let cur = (costs_of (v ∷ vs)).0 in
      let p = (and-eq-true_iff (is_closed next cur v) (costs_of vs).1).0 h in
      lower G W cap (at next) (at cur) v vs (closed_at next cur v p.0) (costs_low W vs p.1) t s ht r

-- ---- no other stream costs as little

-- of every j but k the test asks for more than the least, so a sum that passes it and is no more than the least is k's
only_at : (j k least sum n : ℕ) → leb (cond (eqb j k) least (suc least)) sum ≡ true → sum ≤ n → n ≤ least → (j ≡ k) × (least ≤ sum)
only_at j k least sum n h l m = go (eqb j k) refl h
  where
    go : (b : Bool) → eqb j k ≡ b → leb (cond b least (suc least)) sum ≡ true → (j ≡ k) × (least ≤ sum)
    go true e g = (eqb-true j k e, leb-true least sum g)
    go false e g = absurd (omega (arith, leb-true (suc least) sum g))

module _ {A : Type 0} (G : Codes A) (cap : ℕ) where
  -- a stream that begins with structure k of table t has no fewer bits
  abbrev pub bits_by : A → List A → ℕ → ℕ → ℕ
  bits_by v vs t k =
      length (G.word t k v) + cost_behind cap (at (costs_of G cap vs).0) (at (costs_of G cap (v ∷ vs)).0) t (G.kind t k v)

  -- structure k makes table t's cost, and every other structure makes more
  abbrev pub is_only : A → List A → ℕ → ℕ → Bool
  is_only v vs t k =
      let least : ℕ = at (costs_of G cap (v ∷ vs)).0 t in
      all_in 0 (G.count t) (λ j. leb (cond (eqb j k) least (suc least)) (bits_by v vs t j))

  -- the stream whose codes are the structures at these places, and whether each of them alone makes the cost
  abbrev pub stream_by : List ℕ → List A → ℕ → List ℕ
  stream_by [] vs t = []
  stream_by (k ∷ ks) [] t = []
  stream_by (k ∷ ks) (v ∷ vs) t = G.word t k v ++ stream_by ks (values_behind v vs (G.kind t k v)) (table_behind t (G.kind t k v))

  abbrev pub are_only : List ℕ → List A → ℕ → Bool
  are_only [] [] t = true
  are_only [] (v ∷ vs) t = false
  are_only (k ∷ ks) [] t = false
  are_only (k ∷ ks) (v ∷ vs) t = is_only v vs t k && are_only ks (values_behind v vs (G.kind t k v)) (table_behind t (G.kind t k v))

  -- where a structure leads there are closed costs, and what is left costs what they have
  behind : Sound G → (v : A) (vs : List A) → (costs_of G cap (v ∷ vs)).1 ≡ true → (t k : ℕ) → There G t → k < G.count t
      → (d : Kind) → G.kind t k v ≡ d → Alive d
      → There G (table_behind t d) × ((costs_of G cap (values_behind v vs d)).1 ≡ true)
      × (cost_behind cap (at (costs_of G cap vs).0) (at (costs_of G cap (v ∷ vs)).0) t d
      ≡ at (costs_of G cap (values_behind v vs d)).0 (table_behind t d))
  behind W v vs closed t k ht hk dead e a = absurd a
  behind W v vs closed t k ht hk gives e a =
      let p = (and-eq-true_iff (is_closed G cap (costs_of G cap vs).0 (costs_of G cap (v ∷ vs)).0 v) (costs_of G cap vs).1).0 closed in
      (ht, p.1, refl)
  behind W v vs closed t k ht hk (leads u) e a = (W.onto t k u v ht hk e, closed, refl)

  -- a stream that costs no more is the one by these places
  only_stream : Sound G → (ks : List ℕ) (vs : List A) (t : ℕ) → (costs_of G cap vs).1 ≡ true → are_only ks vs t ≡ true → There G t
      → (s : List ℕ) → Reads G t s vs → length s ≤ at (costs_of G cap vs).0 t → s ≡ stream_by ks vs t
  only_stream W [] [] t closed h ht s r l = sym (nothing_left G r)
  only_stream W [] (v ∷ vs) t closed h ht s r l = unlike cc
  only_stream W (k ∷ ks) [] t closed h ht s r l = unlike cc
  only_stream W (k ∷ ks) (v ∷ vs) t closed h ht s r l =
      let p = split G r in
      let j = p.k in
      let d = G.kind t j v in
      let least = at (costs_of G cap (v ∷ vs)).0 t in
      let q = (and-eq-true_iff (is_only v vs t k) (are_only ks (values_behind v vs (G.kind t k v)) (table_behind t (G.kind t k v)))).0 h in
      let b = behind W v vs closed t j ht p.inside d refl p.alive in
      let low = costs_low G cap W (values_behind v vs d) b.1 (table_behind t d) p.rest b.0 p.left in
      let long : length s ≡ length (G.word t j v) + length p.rest = ap length p.is ∙ simp length-append in
      let test = all_at (λ i. leb (cond (eqb i k) least (suc least)) (bits_by v vs t i)) 0 (G.count t) q.0 j (omega arith) p.inside in
      let o = only_at j k least (bits_by v vs t j) (length s) test (omega (arith, low, b.2, long)) l in
      let rest = only_stream W ks (values_behind v vs d) (table_behind t d) b.1 (rw o.0 q.1) b.0 p.rest p.left
      (omega (arith, o.1, b.2, long)) in
      p.is ∙ ap (λ (x : List ℕ). G.word t j v ++ x) rest
      ∙ ap (λ (i : ℕ). G.word t i v ++ stream_by ks (values_behind v vs (G.kind t i v)) (table_behind t (G.kind t i v))) o.0

-- ---- the shortest stream

-- the bits at which costs stop here: more than a stream that is tested has
abbrev pub enough : ℕ
enough = 1000

-- the tests: the tables are right; the costs are closed; the structures at these places alone make them; the stream costs no more, and
-- reads to the values
abbrev pub passes_all : List (List Structure) → List ℤ → List ℕ → List ℕ → Bool
passes_all tables vs stream places =
    every (table_right (length tables)) tables && ((costs_of (rule tables) enough vs).1 && (are_only (rule tables) enough places vs 1
    && (leb (length stream) (at (costs_of (rule tables) enough vs).0 1) && (are_bits stream && reads_it tables vs 1 stream))))

pub shortest_by : (tables : List (List Structure)) (vs : List ℤ) (stream places : List ℕ) → 1 ≤ length tables
    → passes_all tables vs stream places ≡ true → Shortest tables vs stream
shortest_by tables vs stream places there h =
    let right = every (table_right (length tables)) tables in
    let closed = (costs_of (rule tables) enough vs).1 in
    let only = are_only (rule tables) enough places vs 1 in
    let least = at (costs_of (rule tables) enough vs).0 1 in
    let reads = are_bits stream && reads_it tables vs 1 stream in
    let p = (and-eq-true_iff right (closed && (only && (leb (length stream) least && reads)))).0 h in
    let q = (and-eq-true_iff closed (only && (leb (length stream) least && reads))).0 p.1 in
    let o = (and-eq-true_iff only (leb (length stream) least && reads)).0 q.1 in
    let l = (and-eq-true_iff (leb (length stream) least) reads).0 o.1 in
    let r = (and-eq-true_iff (are_bits stream) (reads_it tables vs 1 stream)).0 l.1 in
    let short = leb-true (length stream) least l.0 in
    let W = sound tables p.0 there in
    let own : Stream tables vs stream = record { bits = r.0; reads = passes_reads tables vs 1 stream r.1 } in
    let is : (s : List ℕ) → Stream tables vs s → length s ≤ least → s ≡ stream_by (rule tables) enough places vs 1 =
    λ s x e. only_stream (rule tables) enough W places vs 1 q.0 o.0 (omega arith, there) s (reads_of tables p.0 there x) e in
    record {
      stream = own;
      fewest = λ other x.
          omega (arith, short, costs_low (rule tables) enough W vs q.0 1 other (omega arith, there) (reads_of tables p.0 there x));
      smaller = λ other x e. inl (is stream own short ∙ sym (is other x (omega (arith, short, e))));
    }

-- ---- no code gives a value outside 16 bits

serves_holds : (r base : ℕ) (v : ℤ) → r ≤ 16 → serves r base v ≡ true → mag v < 32768
unfolding serves holds
serves_holds zero base v h e = rw (← equal_true (signed 16 base) v e) (base_small base)
serves_holds (suc w) base v h e = let l = pow_mono {i = w} {j = 15} (omega arith) in omega (arith, ltb-true (mag v) (2 ^ w) e)

module _ (tables : List (List Structure)) (right : every (table_right (length tables)) tables ≡ true) where
  reads_holds : {t : ℕ} {bs : List ℕ} {vs : List ℤ} → Reads (rule tables) t bs vs → (k : ℕ) → k < length vs
      → mag (get_or vs k (pos 0)) < 32768
  reads_holds done k h = absurd (omega arith)
  reads_holds (value {t = t} j {v = v} hj e r) zero h =
      let c = structure_of tables t j in
      let ok = structure_fine (length tables) tables right t j hj in
      serves_holds (remainder_of c) c.base v (omega (arith, ok.rest)) (gives_value c v e).1
  reads_holds (value {t = t} j hj e r) (suc k) h = reads_holds r k (omega arith)
  reads_holds (switch j u hj e r) k h = reads_holds r k h

pub outside_none : (tables : List (List Structure)) → every (table_right (length tables)) tables ≡ true
    → (vs : List ℤ) (k : ℕ) → k < length vs → 32768 ≤ mag (get_or vs k (pos 0)) → NoStream tables vs
outside_none [] right vs k h g bs s = plain_none vs k h g bs s
outside_none (cs ∷ others) right vs k h g bs s =
    let tables = cs ∷ others in
    omega (arith, reads_holds tables right (reads_of tables right (omega arith) s) k h)
