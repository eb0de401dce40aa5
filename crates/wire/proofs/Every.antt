-- A rule of every element of a list, for any type of elements. Assumes nothing.
use Prim.Native.Nat.{ℕ, zero, suc, ◌+◌, ◌-◌, ◌<◌, ◌≤◌}
use mathlib.Core.Path.{◌≡◌, refl}
use mathlib.Core.Bool.{Bool, true, false, and-eq-true_iff}
use mathlib.Core.List.{List, [], ◌∷◌, ◌++◌, map}
use native.Mathlib.Numerals.{add-one}
use native.Mathlib.Omega.{arith}
use lib.ListN.{length, get_or, take, drop, take-append-drop}
use lib.Seq.{drop-cons}
use Rattle.wire.specs.Numbers.{byte_at, part}
use Rattle.wire.specs.RuleWords.{each, all_in, every}

module _ {A : Type 0} (rule : A → Bool) where
  -- the first element breaks the rule
  pub every_miss : {l : List A} (x : A) (xs : List A) → l ≡ x ∷ xs → rule x ≡ false → every rule l ≡ false
  unfolding every
  every_miss x xs e h = rw (e, h)

  -- the first element keeps the rule, so the others decide
  pub every_step : {l : List A} (x : A) (xs : List A) → l ≡ x ∷ xs → rule x ≡ true → every rule l ≡ every rule xs
  unfolding every
  every_step x xs e h = rw (e, h)

  -- no element is left
  pub every_end : {l : List A} → l ≡ [] → every rule l ≡ true
  unfolding every
  every_end e = rw e

  -- the rule holds at each place
  pub every_at : (d : A) (xs : List A) → every rule xs ≡ true → (k : ℕ) → k < length xs → rule (get_or xs k d) ≡ true
  unfolding every
  every_at d [] h k g = absurd (omega arith)
  every_at d (x ∷ xs) h zero g = ((and-eq-true_iff (rule x) _).0 h).0
  every_at d (x ∷ xs) h (suc k) g = every_at d xs ((and-eq-true_iff (rule x) _).0 h).1 k (omega arith)

  -- where all elements keep it, the first does, and the others do
  pub every_parts : (x : A) (xs : List A) → every rule (x ∷ xs) ≡ true → (rule x ≡ true) × (every rule xs ≡ true)
  unfolding every
  every_parts x xs h = (and-eq-true_iff (rule x) (every rule xs)).0 h

  -- where two lists together keep it, each does
  pub every_split : (a b : List A) → every rule (a ++ b) ≡ true → (every rule a ≡ true) × (every rule b ≡ true)
  unfolding every
  every_split [] b h = (refl, h)
  every_split (x ∷ a) b h =
      let p = every_parts x (a ++ b) h in
      let q = every_split a b p.1 in
      (rw p.0 q.0, q.1)

  -- and where each does, they do together
  pub every_join : (a b : List A) → every rule a ≡ true → every rule b ≡ true → every rule (a ++ b) ≡ true
  unfolding every
  every_join [] b h g = g
  every_join (x ∷ a) b h g =
      let p = every_parts x a h in
      rw p.0 (every_join a b p.1 g)

  -- so one element more that keeps it may be put behind
  pub every_more : (l : List A) (x : A) → every rule l ≡ true → rule x ≡ true → every rule (l ++ (x ∷ [])) ≡ true
  unfolding every
  every_more l x h k = every_join l (x ∷ []) h (rw k)

  -- the first n elements, and those behind them
  pub every_cut : (n : ℕ) (l : List A) → every rule l ≡ true → (every rule (take n l) ≡ true) × (every rule (drop n l) ≡ true)
  every_cut n l h = every_split (take n l) (drop n l) (rw (take-append-drop n l) h)

  -- what is kept at each place is kept by every element
  pub every_all : (d : A) (l : List A) → ((k : ℕ) → k < length l → rule (get_or l k d) ≡ true) → every rule l ≡ true
  unfolding every
  every_all d [] h = refl
  every_all d (x ∷ l) h = rw (h 0 (omega arith)) (every_all d l (λ k g. h (suc k) (omega arith)))

-- a rule of every element that a function makes
pub every_map : {A B : Type 0} (rule : A → Bool) (kept : B → Bool) (f : A → B) → ((x : A) → rule x ≡ true → kept (f x) ≡ true)
    → (l : List A) → every rule l ≡ true → every kept (map f l) ≡ true
unfolding every
every_map rule kept f step [] h = refl
every_map rule kept f step (x ∷ l) h =
    let p = every_parts rule x l h in
    rw (step x p.0) (every_map rule kept f step l p.1)

-- where every element keeps a rule, every one keeps a weaker rule
pub every_weaker : {A : Type 0} (rule weaker : A → Bool) → ((x : A) → rule x ≡ true → weaker x ≡ true) → (l : List A)
    → every rule l ≡ true → every weaker l ≡ true
unfolding every
every_weaker rule weaker h [] k = refl
every_weaker rule weaker h (x ∷ l) k =
    let p = every_parts rule x l k in
    rw (h x p.0) (every_weaker rule weaker h l p.1)

-- every element keeps the rule that nothing breaks
pub every_any : {A : Type 0} (l : List A) → every (λ (x : A). true) l ≡ true
unfolding every
every_any [] = refl
every_any (x ∷ l) = every_any l

-- a rule of the byte at each of n places
each_every : (rule : ℕ → Bool) (s : List ℕ) (n k : ℕ) → (0 < n → k + n ≤ length s)
    → each n k (λ i. rule (byte_at s i)) ≡ every rule (take n (drop k s))
unfolding each every
each_every rule s zero k h = refl
each_every rule s (suc n) k h =
    let fits = h (omega arith) in
    rw (drop-cons s k 0 (omega arith), each_every rule s n (k + 1) (λ g. omega arith), add-one k)

-- it is one of every byte of a part
pub all_every : (rule : ℕ → Bool) (s : List ℕ) (a b : ℕ) → b ≤ length s → all_in a b (λ i. rule (byte_at s i)) ≡ every rule (part s a b)
unfolding all_in
all_every rule s a b h = each_every rule s (b - a) a (λ g. omega arith)
