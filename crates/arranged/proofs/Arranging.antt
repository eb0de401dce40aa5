-- Arrangements: of no entry, with one more put in, that there is only one, and what is kept. Assumes nothing.
use Prim.Native.Nat.{ℕ}
use mathlib.Core.Path.{◌≡◌, refl, sym, ap, ◌∙◌}
use mathlib.Core.Bool.{Bool, true, false, not, cond, and-eq-true_iff}
use mathlib.Core.List.{List, [], ◌∷◌, ◌++◌, append-nil}
use borrow.Author.Tests.{not-false}
use Rattle.wire.specs.RuleWords.{every}
use Rattle.index.specs.Entry.{Entry}
use Rattle.index.specs.Order.{before, in_order}
use Rattle.index.specs.Index.{front, behind, up_to, placed, has}
use Rattle.arranged.specs.Arranged.{alike, those, Arranged}
use Rattle.arranged.proofs.Order.{first, second, third, less_later, less_not_like, like_self, before_order}
use Rattle.wire.proofs.Every.{every_weaker, every_any}
use Rattle.arranged.proofs.Parts.{
  every_those,
  every_those_tail,
  split,
  those_append,
  those_none,
  those_tail,
  those_those,
}
use Rattle.arranged.proofs.Ordered.{every_behind, every_from, tail_ordered, those_ordered, placed_ordered}

-- nothing is the arrangement of nothing
pub nothing : Arranged [] []
unfolding in_order
nothing = record { ordered = refl; each = λ e. refl }

-- e comes before all that does not come before what e comes before
stays_behind : (e f g : Entry) → before g f ≡ false → before e f ≡ true → before e g ≡ true
stays_behind e f g h k = less_later before_order e f g k h

-- where e comes before every entry, none is alike with what is alike with e
none_alike : (e f : Entry) (es : List Entry) → alike f e ≡ true → every (before e) es ≡ true → those (alike f) es ≡ []
none_alike e f es a h =
    those_none (alike f) es
    (every_weaker (before e) (λ x. not (alike f x)) (λ x k. rw (less_not_like before_order f x (before_order.left f e x a ∙ k))) es h)

-- with e, those that are alike are the same as before, and e the last of them
placed_each : (e f : Entry) (arrived es : List Entry) → in_order es ≡ true → those (alike f) es ≡ those (alike f) arrived
    → those (alike f) (placed e es) ≡ those (alike f) (arrived ++ (e ∷ []))
unfolding those
placed_each e f arrived es h k =
    rw (those_append (alike f) (front (up_to e) es) (e ∷ behind (up_to e) es), those_append (alike f) arrived (e ∷ [])) (go (alike f e) refl)
  where
    early : List Entry
    early = those (alike f) (front (up_to e) es)

    late : List Entry
    late = those (alike f) (behind (up_to e) es)

    both : early ++ late ≡ those (alike f) arrived
    both = sym (those_append (alike f) (front (up_to e) es) (behind (up_to e) es)) ∙ ap (those (alike f)) (sym (split (up_to e) es)) ∙ k

    none : alike f e ≡ true → late ≡ []
    none q =
        none_alike e f (behind (up_to e) es) q
        (every_behind (before e) (stays_behind e) (λ x. true) (up_to e) (λ x a b. not-false (before e x) b) es (every_any es) h)

    go : (b : Bool) → alike f e ≡ b → early ++ cond b (e ∷ late) late ≡ those (alike f) arrived ++ cond b (e ∷ []) []
    go true q = rw (← both, none q, append-nil early)
    go false q = both ∙ sym (append-nil (those (alike f) arrived))

-- where an entry arrives, the arrangement is as before, with it put before the first that comes behind it
pub put_in_lem : (arrived es : List Entry) (e : Entry) → Arranged arrived es
    → Arranged (arrived ++ (e ∷ [])) (placed e es)
put_in_lem arrived es e a = record {
  ordered = placed_ordered e es a.ordered;
  each = λ f. placed_each e f arrived es a.ordered (a.each f);
}

-- entries in order are their own arrangement
pub in_order_lem : (es : List Entry) → in_order es ≡ true → Arranged es es
in_order_lem es h = record { ordered = h; each = λ e. refl }

-- what arrived last may come arranged
pub later_arranged : (arrived late fs es : List Entry) → Arranged late fs → Arranged (arrived ++ fs) es → Arranged (arrived ++ late) es
later_arranged arrived late fs es b a = record {
  ordered = a.ordered;
  each = λ e. a.each e ∙ rw (those_append (alike e) arrived fs, b.each e, ← those_append (alike e) arrived late);
}

-- the first entry is the first of those that are alike with it
those_first : (e : Entry) (es : List Entry) → those (alike e) (e ∷ es) ≡ e ∷ those (alike e) es
unfolding those
those_first e es = rw (like_self before_order e)

-- where e comes before the first of a list in order, none of the list is alike with it
none_behind : (e f : Entry) (es : List Entry) → in_order (f ∷ es) ≡ true → before e f ≡ true → those (alike e) (f ∷ es) ≡ []
none_behind e f es h k = none_alike e e (f ∷ es) (like_self before_order e) (every_from (before e) (stays_behind e) f es h k)

-- two lists in order that have the same entries of every identifier and date are equal
ordered_one : (es fs : List Entry) → in_order es ≡ true → in_order fs ≡ true → ((g : Entry) → those (alike g) es ≡ those (alike g) fs)
    → es ≡ fs
unfolding those
ordered_one [] [] h k s = refl
ordered_one [] (f ∷ fs) h k s = cc (s f, those_first f fs)
ordered_one (e ∷ es) [] h k s = cc (s e, those_first e es)
ordered_one (e ∷ es) (f ∷ fs) h k s =
    elim (before_order.cases e f) [
      | first p q r ↦ cc (s e, those_first e es, none_behind e f fs k p)
      | second p q r ↦
          let same : f ≡ e = cc (s e, those_first e es) in
          rw same
          (ap (λ (l : List Entry). e ∷ l)
          (ordered_one es fs (tail_ordered e es h) (tail_ordered f fs k) (λ g. those_tail (alike g) e es fs (rw same at (s g)))))
      | third p q r ↦ cc (s f, those_first f fs, none_behind f e es h r)
    ]

-- there is one arrangement
pub one : (arrived es fs : List Entry) → Arranged arrived es → Arranged arrived fs → es ≡ fs
one arrived es fs a b = ordered_one es fs a.ordered b.ordered (λ g. a.each g ∙ sym (b.each g))

-- a rule that the entries of every identifier and date keep is kept by all
every_each : (rule : Entry → Bool) (es : List Entry) → ((e : Entry) → every rule (those (alike e) es) ≡ true) → every rule es ≡ true
unfolding every
every_each rule [] h = refl
every_each rule (e ∷ es) h =
    let p = (and-eq-true_iff (rule e) (every rule (those (alike e) es))).0 (rw (those_first e es) at (h e)) in
    rw p.0 (every_each rule es (λ f. every_those_tail rule (alike f) e es (h f)))

-- a rule that all that arrived keep is kept in the arrangement
pub rule_kept : (rule : Entry → Bool) (arrived es : List Entry) → Arranged arrived es → every rule arrived ≡ true → every rule es ≡ true
rule_kept rule arrived es a h = every_each rule es (λ e. rw (a.each e) (every_those rule (alike e) arrived h))

-- those of an arrangement that keep a rule are the arrangement of those that keep it
rule_arranged : (rule : Entry → Bool) (arrived es : List Entry) → Arranged arrived es → Arranged (those rule arrived) (those rule es)
rule_arranged rule arrived es a = record {
  ordered = those_ordered rule es a.ordered;
  each = λ e. those_those (alike e) rule es ∙ ap (those rule) (a.each e) ∙ those_those rule (alike e) arrived;
}

-- so it is of those of an identifier
pub those_arranged : (id : List ℕ) (arrived es : List Entry) → Arranged arrived es → Arranged (those (has id) arrived) (those (has id) es)
those_arranged id = rule_arranged (has id)
