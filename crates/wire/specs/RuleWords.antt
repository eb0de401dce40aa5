-- The words that rules are written in (01, Refusal numbers).
use Rattle.std.specs.Prelude.{ℕ, zero, suc, ◌+◌, ◌-◌, Bool, true, ◌&&◌, cond, List, [], ◌∷◌, leb, ltb, length}

-- p holds of n numbers, from k on
unfoldable pub each : ℕ → ℕ → (ℕ → Bool) → Bool
each zero k p = true
each (suc n) k p = p k && each n (k + 1) p

-- p holds of every number from one up to another, the second left out
unfoldable pub all_in : ℕ → ℕ → (ℕ → Bool) → Bool
all_in from to p = each (to - from) from p

-- a rule holds of every element of a list
unfoldable pub every : {A : Type 0} → (A → Bool) → List A → Bool
every rule [] = true
every rule (x ∷ xs) = rule x && every rule xs

-- numbers that are bytes, as those of every lent `[u8]` are
abbrev pub are_bytes : List ℕ → Bool
are_bytes s = every (λ b. ltb b 256) s

-- bytes end at a place, with at most `spare` bytes behind it: 1 in a record, 0 in what the writer is given
unfoldable pub ends_by : ℕ → List ℕ → ℕ → Bool
ends_by spare s end = leb end (length s) && leb (length s) (end + spare)

-- a refusal's number where its rule is broken; else what the rules after it say
abbrev pub unless : Bool → ℕ → ℕ → ℕ
unless kept number later = cond kept later number
