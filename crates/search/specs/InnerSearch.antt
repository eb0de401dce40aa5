-- The costs and choices of the search for the shortest stream, on the tables as the engines hold them. Tables are numbered from 1.
-- Costs stop at 524,281, one more than the bits of 65,535 bytes; 524,282 says that there is no stream. No public contract rests on this.
use Rattle.std.specs.Prelude.{ℕ, suc, ◌+◌, ◌-◌, ◌*◌, ◌^◌, ◌≤◌, ◌<◌, ◌≡◌, cond, List, ◌∷◌, ◌⊎◌, eqb, ℤ, pos, length, get_or, drop}
use Rattle.bits.specs.InnerRaised.{value_zero, from_zero}
use Rattle.tables.specs.declared.Structure.{Structure}
use Rattle.tables.specs.Section2.{table_of}
use Rattle.compiled.specs.declared.Form.{Form}
use Rattle.compiled.specs.InnerForm.{table_numbers, form_at, Compiled}
use Rattle.paths.specs.InnerPaths.{Codes, There, Best, Hop, join, Met, Exact, NoValue, Nearest}
use Rattle.shortest.specs.InnerRule.{word_of, structure_of, rule}

-- the numbers say some n tables that are right
abbrev pub CompiledCount : List ℕ → ℕ → Type 0
CompiledCount tab n = (tables : List (List Structure)) × Compiled tables tab × (length tables ≡ n)

-- one more than the bits that a lead may have
abbrev pub cap : ℕ
cap = 524281

-- ---- what the backward pass leaves

-- where the best stream for v and vs from table t on has fewer bits than the cap, structure k is its first step
abbrev pub Shows : Codes ℤ → ℤ → List ℤ → ℕ → ℕ → Type 0
Shows G v vs t k = (s : List ℕ) → Best G t (v ∷ vs) s → length s < cap → Hop G v vs t k

-- from value i on the work space has these first steps, a byte for each value and table
abbrev pub Trail : List (List Structure) → List ℤ → List ℕ → ℕ → Type 0
Trail tables vs work i =
    (j t : ℕ) → i ≤ j → j < length vs → There (rule tables) t
    → Shows (rule tables) (get_or vs j (pos 0)) (drop (j + 1) vs) t (get_or work (j * length tables + (t - 1)) 0)

-- r is what the values cost from table 1 on, and the work space has the way
pub record Planned (tables : List (List Structure)) (vs : List ℤ) (work : List ℕ) (r : ℕ) : Type 0 where
  pub costs : ℕ → ℕ
  pub exact : Exact (rule tables) cap vs costs
  pub total : costs 1 ≡ r
  pub trail : Trail tables vs work 0

-- ---- the tables as numbers

-- how many structures table t has, and the form of structure k
abbrev pub count_of : List ℕ → ℕ → ℕ
count_of tab t = get_or tab ((t - 1) * table_numbers) 0

abbrev pub form_in : List ℕ → ℕ → ℕ → Form
form_in tab t k = form_at tab (t - 1) k

abbrev pub bits_of : List ℕ → ℕ → ℕ → ℕ
bits_of tab t k = (form_in tab t k).prefix + (form_in tab t k).remainder

-- the place of a structure's word among those of its table
abbrev pub rank_in : List ℕ → ℕ → ℕ → ℕ
rank_in tab t k = (form_in tab t k).word * 2 ^ (32 - (form_in tab t k).prefix)

-- a form that was put together from a right structure
abbrev pub Small : Form → Type 0
Small f = (f.prefix ≤ 32) × (f.remainder ≤ 16) × (f.to ≤ 8) × (f.word < 2 ^ f.prefix)

-- none of the n tables has a switch
abbrev pub NoSwitch : List ℕ → ℕ → Type 0
NoSwitch tab n = (t k : ℕ) → 1 ≤ t → t ≤ n → k < count_of tab t → (form_in tab t k).to ≡ 0

-- a structure of table t, or 64 for none
abbrev pub Place : List ℕ → ℕ → ℕ → Type 0
Place tab t k = (k ≡ 64) ⊎ (k < count_of tab t)

-- the costs in an array, by the table's number; place 0 is not used
abbrev pub at : List ℕ → ℕ → ℕ
at costs t = get_or costs t 0

-- what structure k of table t costs as a switch, from costs; 524,282 for a value's structure
abbrev pub leap_of : List ℕ → List ℕ → ℕ → ℕ → ℕ
leap_of tab costs t k =
    cond (eqb (form_in tab t k).to 0) (suc cap) (join cap (bits_of tab t k) (at costs (form_in tab t k).to))

-- ---- the value's structure

-- of the first m structures of table t, k gives the value x, 131,072 added, at least cost; or it is 64, and none gives it
abbrev pub Served : List (List Structure) → ℕ → ℕ → ℕ → ℕ → Type 0
Served tables x t m k =
    ((k ≡ 64) × NoValue (rule tables) (from_zero value_zero x) t m) ⊎ Nearest (rule tables) (from_zero value_zero x) t m k

-- structure k of table t, or 64 for none, is the value's
abbrev pub IsNearest : List ℕ → ℕ → ℕ → ℕ → Type 0
IsNearest tab t x k = ((tables : List (List Structure)) → Compiled tables tab → Served tables x t (count_of tab t) k) × Place tab t k

-- what is known of the values from -128 to 127: 256 places a table, each with the value's structure, or more than 64
pub record Known (tab known : List ℕ) : Type 0 where
  pub room : length known ≡ 2048
  pub found : (t x : ℕ) → 1 ≤ t → t ≤ 8 → 130944 ≤ x → x < 131200 → get_or known ((t - 1) * 256 + (x - 130944)) 0 ≤ 64
      → IsNearest tab t x (get_or known ((t - 1) * 256 + (x - 130944)) 0)

-- k is the value's structure of table t, and c what it costs where the costs behind it are `next`
abbrev pub Valued : List (List Structure) → List ℕ → ℕ → ℕ → ℕ → ℕ → Type 0
Valued tables next x t k c =
    ((k ≡ 64) × NoValue (rule tables) (from_zero value_zero x) t (length (table_of tables t)) × (c ≡ suc cap))
    ⊎ (Nearest (rule tables) (from_zero value_zero x) t (length (table_of tables t)) k
    × (c ≡ join cap (length (word_of (structure_of tables t k) (from_zero value_zero x))) (at next t)))

-- so it is for the tables before m
abbrev pub ValuedTo : List (List Structure) → List ℕ → ℕ → List ℕ → List ℕ → ℕ → Type 0
ValuedTo tables next x marks costs m = (t : ℕ) → 1 ≤ t → t < m → Valued tables next x t (get_or marks (t - 1) 0) (at costs t)

-- ---- switches

-- r is the least of f's first m values, or 524,282
pub record LeastOf (f : ℕ → ℕ) (m r : ℕ) : Type 0 where
  pub low : (k : ℕ) → k < m → r ≤ f k
  pub hit : (r ≡ suc cap) ⊎ ((k : ℕ) × (k < m) × (f k ≡ r))

-- no switch of table t makes its cost smaller
abbrev pub Shut : List ℕ → List ℕ → ℕ → Type 0
Shut tab costs t = (k : ℕ) → k < count_of tab t → at costs t ≤ leap_of tab costs t k

-- streams meet the costs of the values from v on
abbrev pub AllMet : List (List Structure) → ℤ → List ℤ → List ℕ → Type 0
AllMet tables v vs costs = (t : ℕ) → There (rule tables) t → Met (rule tables) cap (v ∷ vs) (at costs) t

-- costs of n tables that no switch makes smaller, from those without switches
pub record Settled (tab : List ℕ) (n : ℕ) (first costs : List ℕ) : Type 0 where
  pub nine : length costs ≡ 9
  pub less : (t : ℕ) → t < 9 → at costs t ≤ at first t
  pub shut : (t : ℕ) → 1 ≤ t → t ≤ n → Shut tab costs t
  pub met : (tables : List (List Structure)) (x : ℕ) (vs : List ℤ) → Compiled tables tab → length tables ≡ n
      → AllMet tables (from_zero value_zero x) vs first → AllMet tables (from_zero value_zero x) vs costs

-- ---- choices

-- of structure k of table t and the structure best, or none, r has the smaller word
pub record Smaller (tab : List ℕ) (t k best r : ℕ) : Type 0 where
  pub one : (r ≡ k) ⊎ (r ≡ best)
  pub there : r < count_of tab t
  pub first : rank_in tab t r ≤ rank_in tab t k
  pub other : best < 64 → rank_in tab t r ≤ rank_in tab t best

-- of the structure `start` of table t and those of the first m that cost what the table does as switches, r has the smallest word; 64
-- for none
pub record Picked (tab costs : List ℕ) (t start m r : ℕ) : Type 0 where
  pub place : Place tab t r
  pub from : (r ≡ start) ⊎ (leap_of tab costs t r ≡ at costs t)
  pub before : start < 64 → (r < 64) × (rank_in tab t r ≤ rank_in tab t start)
  pub first : (j : ℕ) → j < m → leap_of tab costs t j ≡ at costs t → at costs t < cap → (r < 64) × (rank_in tab t r ≤ rank_in tab t j)

-- where the value's structure of table t is `near` and costs what `first` says, the structure r was picked
abbrev pub PickedFrom : List ℕ → List ℕ → List ℕ → ℕ → ℕ → ℕ → Type 0
PickedFrom tab first costs t near r =
    Picked tab costs t (cond (eqb (at first t) (at costs t)) near 64) (count_of tab t) r

-- ---- a layer

-- the costs of the values from v on, and the first steps, a byte for each table
pub record Layer (tables : List (List Structure)) (v : ℤ) (vs : List ℤ) (costs marks : List ℕ) : Type 0 where
  pub exact : Exact (rule tables) cap (v ∷ vs) (at costs)
  pub shows : (t : ℕ) → There (rule tables) t → Shows (rule tables) v vs t (get_or marks (t - 1) 0)

-- costs in nine places, none above that which says that there is no stream
abbrev pub NineCosts : List ℕ → Type 0
NineCosts costs = (length costs ≡ 9) × ((t : ℕ) → t < 9 → at costs t ≤ suc cap)
