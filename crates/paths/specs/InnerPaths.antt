-- Words for the search: tables of codes for any type of values, what a stream of code words reads to, which stream is the best, and
-- what a layer of costs says of it. Tables are numbered from 1, the structures of a table from 0. No public contract rests on this.
use Rattle.std.specs.Prelude.{ℕ, suc, ◌+◌, ◌≤◌, ◌<◌, min, ◌≡◌, cond, List, [], ◌∷◌, ◌++◌, ◌⊎◌, leb, length}
use Rattle.paths.specs.Before.{Before}

-- what a structure does for a value: it has no code for it, gives it, or leads to another table
pub data Kind : Type 0 where
  dead : Kind
  gives : Kind
  leads : ℕ → Kind

-- tables of codes: how many tables; how many structures a table has; the code word of a table's structure for a value, and what it
-- does for it
pub record Codes (A : Type 0) : Type 0 where
  pub tables : ℕ
  pub count : ℕ → ℕ
  pub word : ℕ → ℕ → A → List ℕ
  pub kind : ℕ → ℕ → A → Kind

-- a number of one of the tables
abbrev pub There : {A : Type 0} → Codes A → ℕ → Type 0
There G t = (1 ≤ t) × (t ≤ G.tables)

-- what is asked of the tables: a switch leads to one of them, and no code word is empty
pub record Sound {A : Type 0} (G : Codes A) : Type 0 where
  pub onto : (t k u : ℕ) (v : A) → There G t → k < G.count t → G.kind t k v ≡ leads u → There G u
  pub some : (t k : ℕ) (v : A) → There G t → k < G.count t → 0 < length (G.word t k v)

-- from table t on the bits, all of them, read to these values; behind the last value there is nothing, so no switch either
pub data Reads {A : Type 0} (G : Codes A) : ℕ → List ℕ → List A → Type 0 where
  done : {t : ℕ} → Reads G t [] []
  value : {t : ℕ} (k : ℕ) {v : A} {s : List ℕ} {vs : List A} → k < G.count t → G.kind t k v ≡ gives → Reads G t s vs
      → Reads G t (G.word t k v ++ s) (v ∷ vs)
  switch : {t : ℕ} (k u : ℕ) {v : A} {s : List ℕ} {vs : List A} → k < G.count t → G.kind t k v ≡ leads u → Reads G u s (v ∷ vs)
      → Reads G t (G.word t k v ++ s) (v ∷ vs)

-- the fewest bits of all streams that read to these values, and of equally short ones the smaller at the first differing bit
pub record Best {A : Type 0} (G : Codes A) (t : ℕ) (vs : List A) (s : List ℕ) : Type 0 where
  pub reads : Reads G t s vs
  pub fewest : (other : List ℕ) → Reads G t other vs → length s ≤ length other
  pub smaller : (other : List ℕ) → Reads G t other vs → length other ≡ length s → (s ≡ other) ⊎ Before s other

-- the table behind a structure of table t, and the values that are left there
abbrev pub table_behind : ℕ → Kind → ℕ
table_behind t dead = t
table_behind t gives = t
table_behind t (leads u) = u

abbrev pub values_behind : {A : Type 0} → A → List A → Kind → List A
values_behind v vs dead = vs
values_behind v vs gives = vs
values_behind v vs (leads u) = v ∷ vs

-- the structure has a code for the value
abbrev pub Alive : Kind → Type 0
Alive dead = ⊥
Alive gives = Unit {0}
Alive (leads u) = Unit {0}

-- the best stream begins with structure k of table t: what is left is the best stream behind it
pub record Hop {A : Type 0} (G : Codes A) (v : A) (vs : List A) (t k : ℕ) : Type 0 where
  pub inside : k < G.count t
  pub alive : Alive (G.kind t k v)
  pub rest : List ℕ
  pub after : Best G (table_behind t (G.kind t k v)) (values_behind v vs (G.kind t k v)) rest
  pub whole : Best G t (v ∷ vs) (G.word t k v ++ rest)

-- ---- costs: how many bits, with a cap at which they stop; a number above the cap says that there is no stream

-- the cost of a code of `bits` bits, where what is left costs a
abbrev pub join : ℕ → ℕ → ℕ → ℕ
join cap bits a = cond (leb a cap) (min cap (bits + a)) (suc cap)

-- what is left behind a structure of table t costs: `next` has the costs of the values after this one, `cur` those from this one on
abbrev pub cost_behind : ℕ → (ℕ → ℕ) → (ℕ → ℕ) → ℕ → Kind → ℕ
cost_behind cap next cur t dead = suc cap
cost_behind cap next cur t gives = next t
cost_behind cap next cur t (leads u) = cur u

-- a stream that begins with structure k of table t costs
abbrev pub cost : {A : Type 0} → Codes A → ℕ → (ℕ → ℕ) → (ℕ → ℕ) → A → ℕ → ℕ → ℕ
cost G cap next cur v t k = join cap (length (G.word t k v)) (cost_behind cap next cur t (G.kind t k v))

-- no structure makes table t's cost smaller
abbrev pub Closed : {A : Type 0} → Codes A → ℕ → (ℕ → ℕ) → (ℕ → ℕ) → A → ℕ → Type 0
Closed G cap next cur v t = (k : ℕ) → k < G.count t → cur t ≤ cost G cap next cur v t k

-- some stream from table t on costs no more than r
abbrev pub MetBy : {A : Type 0} → Codes A → ℕ → List A → ℕ → ℕ → Type 0
MetBy G cap vs t r = r ≤ cap → (s : List ℕ) × Reads G t s vs × (min cap (length s) ≤ r)

-- the same, r being what the costs c have for table t
abbrev pub Met : {A : Type 0} → Codes A → ℕ → List A → (ℕ → ℕ) → ℕ → Type 0
Met G cap vs c t = MetBy G cap vs t (c t)

-- the costs of the best streams for these values, from each table on
pub record Exact {A : Type 0} (G : Codes A) (cap : ℕ) (vs : List A) (c : ℕ → ℕ) : Type 0 where
  pub low : (t : ℕ) (s : List ℕ) → There G t → Reads G t s vs → c t ≤ min cap (length s)
  pub met : (t : ℕ) → There G t → Met G cap vs c t
  pub best : (t : ℕ) → There G t → c t < cap → (s : List ℕ) × Best G t vs s × (length s ≡ c t)

-- ---- choices

-- in table t structures k and j are one, or the word of k is the smaller
abbrev pub NotAfter : {A : Type 0} → Codes A → A → ℕ → ℕ → ℕ → Type 0
NotAfter G v t k j = (j ≡ k) ⊎ Before (G.word t k v) (G.word t j v)

-- structure k makes table t's cost, and has the smallest code word of those that do
pub record Chosen {A : Type 0} (G : Codes A) (cap : ℕ) (next cur : ℕ → ℕ) (v : A) (t k : ℕ) : Type 0 where
  pub inside : k < G.count t
  pub tight : cost G cap next cur v t k ≡ cur t
  pub first : (j : ℕ) → j < G.count t → cost G cap next cur v t j ≡ cur t → NotAfter G v t k j

-- of the first m structures of table t none gives the value
abbrev pub NoValue : {A : Type 0} → Codes A → A → ℕ → ℕ → Type 0
NoValue G v t m = (j : ℕ) → j < m → G.kind t j v ≡ gives → ⊥

-- of the first m structures of table t that give the value, structure k has the shortest word, and the smallest of those
pub record Nearest {A : Type 0} (G : Codes A) (v : A) (t m k : ℕ) : Type 0 where
  pub inside : k < m
  pub serves : G.kind t k v ≡ gives
  pub short : (j : ℕ) → j < m → G.kind t j v ≡ gives → length (G.word t k v) ≤ length (G.word t j v)
  pub first : (j : ℕ) → j < m → G.kind t j v ≡ gives → length (G.word t j v) ≡ length (G.word t k v) → NotAfter G v t k j
