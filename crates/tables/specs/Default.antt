-- The default table (01, Code tables), by the runs of ones that its prefixes begin with. The value 0 has no run: its prefix is one bit,
-- 0. A value of size 1 to 8 has a run as long as its size, then 0, then a bit for the sign, 1 if it is negative. A run of nine, ended
-- by 0, comes before 8 bits of remainder, and a run of ten, with nothing to end it, before 16.
use Rattle.std.specs.Prelude.{ℕ, ◌+◌, ◌-◌, ◌*◌, ◌<◌, ◌≡◌, true, List, [], ◌∷◌, ◌++◌, length, get_or, replicate}
use Rattle.tables.specs.Structures.{no_structure, prefix_of, apart}
use Rattle.tables.specs.declared.Structure.{Structure}

-- the base code of a prefix: its first bit is the lowest
unfoldable pub code_of : List ℕ → ℕ
code_of [] = 0
code_of (b ∷ bs) = b + code_of bs * 2

-- the structure of a value with this prefix, this many bits of remainder, and this base value
unfoldable pub valued : List ℕ → ℕ → ℕ → Structure
valued bits remainder base = record {
  prefix = length bits;
  whole = length bits + remainder;
  mode = 1;
  base = base;
  code = code_of bits;
}

-- a run of k ones
unfoldable pub ones : ℕ → List ℕ
ones k = replicate k 1

-- k and -k, which is held as 65,536 - k
unfoldable pub two_values : ℕ → List Structure
two_values k = valued (ones k ++ (0 ∷ (0 ∷ []))) 0 k ∷ (valued (ones k ++ (0 ∷ (1 ∷ []))) 0 (65536 - k) ∷ [])

-- the 19 structures in their order: the value 0; for each size from 1 to 8 the positive value, then the negative one; last the two with
-- a remainder, whose base value is not used
unfoldable pub default_table : List Structure
default_table =
    valued (0 ∷ []) 0 0
    ∷ (two_values 1
    ++ (two_values 2
    ++ (two_values 3
    ++ (two_values 4
    ++ (two_values 5
    ++ (two_values 6
    ++ (two_values 7 ++ (two_values 8 ++ (valued (ones 9 ++ (0 ∷ [])) 8 0 ∷ (valued (ones 10) 16 0 ∷ []))))))))))

-- the rule of the runs again, as the prefixes alone, to hold the table against: a run of k ones, then `00` and then `01`
abbrev pub two_runs : ℕ → List (List ℕ)
two_runs k = (ones k ++ (0 ∷ (0 ∷ []))) ∷ ((ones k ++ (0 ∷ (1 ∷ []))) ∷ [])

-- the prefixes at all places
unfoldable pub runs : List (List ℕ)
runs =
    (0 ∷ [])
    ∷ (two_runs 1
    ++ (two_runs 2
    ++ (two_runs 3
    ++ (two_runs 4
    ++ (two_runs 5
    ++ (two_runs 6 ++ (two_runs 7 ++ (two_runs 8 ++ ((ones 9 ++ (0 ∷ [])) ∷ (ones 10 ∷ []))))))))))

-- one test over the whole table gives both at every place (01, The forms we expect): no prefix begins another or equals it, and each is
-- its run of ones and what ends it
pub record DefaultRule : Type 0 where
  pub free : (j k : ℕ) → j < k → k < 19 → apart (get_or default_table j no_structure) (get_or default_table k no_structure) ≡ true
  pub run : (k : ℕ) → prefix_of (get_or default_table k no_structure) ≡ get_or runs k []
