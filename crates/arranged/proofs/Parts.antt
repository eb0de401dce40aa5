-- Parts of a list of entries, by any rule: up to the first that breaks it, from that one on, and those that keep it. Assumes nothing.
use mathlib.Core.Path.{◌≡◌, refl, ap}
use mathlib.Core.Bool.{Bool, true, false, not, cond, and-eq-true_iff}
use mathlib.Core.List.{List, [], ◌∷◌, ◌++◌, append-nil}
use borrow.Author.Tests.{not-true}
use Rattle.wire.specs.RuleWords.{every}
use Rattle.index.specs.Entry.{Entry}
use Rattle.index.specs.Index.{front, behind}
use Rattle.arranged.specs.Arranged.{those}

module _ (rule : Entry → Bool) where
  -- the entries up to the first that breaks a rule, and those from it on, are all
  pub split : (es : List Entry) → es ≡ front rule es ++ behind rule es
  unfolding front behind
  split [] = refl
  split (e ∷ es) = go (rule e) (split es)
    where
      go : (b : Bool) → es ≡ front rule es ++ behind rule es
          → e ∷ es ≡ cond b (e ∷ front rule es) [] ++ cond b (behind rule es) (e ∷ es)
      go true h = ap (λ (l : List Entry). e ∷ l) h
      go false h = refl

  -- every entry up to the first that breaks a rule keeps it
  pub every_front : (es : List Entry) → every rule (front rule es) ≡ true
  unfolding every front
  every_front [] = refl
  every_front (e ∷ es) = go (rule e) refl (every_front es)
    where
      go : (b : Bool) → rule e ≡ b → every rule (front rule es) ≡ true → every rule (cond b (e ∷ front rule es) []) ≡ true
      go true q h = rw q h
      go false q h = refl

  -- entries that keep a rule, in front of others, come before all that these have up to the first that breaks it
  pub split_over : (xs es : List Entry) → every rule xs ≡ true
      → (front rule (xs ++ es) ≡ xs ++ front rule es) × (behind rule (xs ++ es) ≡ behind rule es)
  unfolding every front behind
  split_over [] es h = (refl, refl)
  split_over (x ∷ xs) es h =
      let p = (and-eq-true_iff (rule x) (every rule xs)).0 h in
      let q = split_over xs es p.1 in
      (rw (p.0, q.0), rw (p.0, q.1))

  -- those of two lists, one behind another
  pub those_append : (es fs : List Entry) → those rule (es ++ fs) ≡ those rule es ++ those rule fs
  unfolding those
  those_append [] fs = refl
  those_append (e ∷ es) fs = rw (those_append es fs) (go (rule e))
    where
      go : (b : Bool) → cond b (e ∷ (those rule es ++ those rule fs)) (those rule es ++ those rule fs)
          ≡ cond b (e ∷ those rule es) (those rule es) ++ those rule fs
      go true = refl
      go false = refl

  -- where every entry keeps a rule, those that keep it are all
  those_all : (es : List Entry) → every rule es ≡ true → those rule es ≡ es
  unfolding every those
  those_all [] h = refl
  those_all (e ∷ es) h =
      let p = (and-eq-true_iff (rule e) (every rule es)).0 h in
      rw p.0 (ap (λ (l : List Entry). e ∷ l) (those_all es p.1))

  -- where none keeps it, they are none
  pub those_none : (es : List Entry) → every (λ e. not (rule e)) es ≡ true → those rule es ≡ []
  unfolding every those
  those_none [] h = refl
  those_none (e ∷ es) h =
      let p = (and-eq-true_iff (not (rule e)) (every (λ f. not (rule f)) es)).0 h in
      rw (not-true (rule e) p.0) (those_none es p.1)

  -- where only the middle of a list keeps it, they are the middle
  pub those_middle : (a b c : List Entry) → every (λ e. not (rule e)) a ≡ true → every rule b ≡ true → every (λ e. not (rule e)) c ≡ true
      → those rule (a ++ (b ++ c)) ≡ b
  those_middle a b c p q r =
      rw (those_append a (b ++ c), those_append b c, those_none a p, those_all b q, those_none c r) (append-nil b)

  -- where lists that begin with one entry have the same of those, so they do without it
  pub those_tail : (e : Entry) (es fs : List Entry) → those rule (e ∷ es) ≡ those rule (e ∷ fs) → those rule es ≡ those rule fs
  unfolding those
  those_tail e es fs = go (rule e)
    where
      go : (b : Bool) → cond b (e ∷ those rule es) (those rule es) ≡ cond b (e ∷ those rule fs) (those rule fs)
          → those rule es ≡ those rule fs
      go true h = cc
      go false h = h

-- those by one rule of those by another: either may come first
pub those_those : (a b : Entry → Bool) (es : List Entry) → those a (those b es) ≡ those b (those a es)
unfolding those
those_those a b [] = refl
those_those a b (e ∷ es) = go (a e) refl (b e) refl (those_those a b es)
  where
    go : (p : Bool) → a e ≡ p → (q : Bool) → b e ≡ q → those a (those b es) ≡ those b (those a es)
        → those a (cond (b e) (e ∷ those b es) (those b es)) ≡ those b (cond (a e) (e ∷ those a es) (those a es))
    go true p true q h = simp (p, q, h)
    go true p false q h = simp (p, q, h)
    go false p true q h = simp (p, q, h)
    go false p false q h = simp (p, q, h)

module _ (rule kept : Entry → Bool) where
  -- what every entry of a list keeps, every one of those of it keeps
  pub every_those : (es : List Entry) → every rule es ≡ true → every rule (those kept es) ≡ true
  unfolding every those
  every_those [] h = refl
  every_those (e ∷ es) h =
      let p = (and-eq-true_iff (rule e) (every rule es)).0 h in
      go (kept e) p.0 (every_those es p.1)
    where
      go : (b : Bool) → rule e ≡ true → every rule (those kept es) ≡ true → every rule (cond b (e ∷ those kept es) (those kept es)) ≡ true
      go true q h = rw q h
      go false q h = h

  -- what every one of those of a list keeps, they keep also without the first entry of the list
  pub every_those_tail : (e : Entry) (es : List Entry) → every rule (those kept (e ∷ es)) ≡ true → every rule (those kept es) ≡ true
  unfolding every those
  every_those_tail e es = go (kept e)
    where
      go : (b : Bool) → every rule (cond b (e ∷ those kept es) (those kept es)) ≡ true → every rule (those kept es) ≡ true
      go true h = ((and-eq-true_iff (rule e) (every rule (those kept es))).0 h).1
      go false h = h
