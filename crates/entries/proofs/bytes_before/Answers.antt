-- Every stream has a count of two bytes, and the sum of the counts is the definition's.
use Prim.Native.Nat.{ℕ, zero, suc, ◌+◌, ◌*◌, ◌≤◌, ◌<◌}
use mathlib.Core.Path.{◌≡◌, refl, ap, ◌∙◌}
use mathlib.Core.List.{List, map}
use native.Mathlib.Numerals.{add-one}
use native.Mathlib.Omega.{arith}
use borrow.Author.Rules.{rules}
use borrow.Author.Tests.{tests}
use lib.ListN.{get_or}
use Rattle.std.specs.List.{range_with_len, sum}
use Rattle.std.proofs.lemmas.Iterator.{YieldsList-from_range, YieldsList-from_map}
use Rattle.std.proofs.lemmas.Iterator.Adapters.{fits_from_length, at_most_from_yields_List}
use Rattle.std.proofs.lemmas.Iterator.Consumers.{sum_from_yields_List}
use Rattle.std.proofs.lemmas.List.FromFn.{sum_by-map-range_with_len_more, length-range_with_len}
use Rattle.wire.specs.Numbers.{number_at}
use Rattle.entries.specs.Sections5And6.{byte_count_of, bytes_before}
use Rattle.entries.proofs.bytes_before.Goals as goal

-- the counts of the first k streams
total : (s : List ℕ) (k : ℕ) → sum (map (byte_count_of s) (range_with_len 0 k)) ≡ bytes_before s k
unfolding bytes_before
total s zero = refl
total s (suc k) =
    let more = rw (add-one k) at (sum_by-map-range_with_len_more (λ x. x) (byte_count_of s) 0 k k (omega arith)) in
    more ∙ ap (λ n. n + byte_count_of s k) (total s k)

-- none of them is over 65,535
most : (s : List ℕ) (k : ℕ) → ((i : ℕ) → get_or s i 0 < 256) → bytes_before s k ≤ 65535 * k
unfolding bytes_before number_at
most s zero h = omega arith
most s (suc k) h = omega (arith, most s k h, h (22 + 2 * k), h (22 + 2 * k + 1))

pub sum-requires-clause-fits : goal.sum-requires-clause-fits
sum-requires-clause-fits c =
    fits_from_length _ _ 256 _ (at_most_from_yields_List (YieldsList-from_range 0 c.args.k c.args.k c.map.ensures.source (omega arith)) (omega (arith, length-range_with_len 0 c.args.k))) c.map.ensures.closure (omega arith) (λ x r q k. search (rules, tests))

pub returns : goal.returns
returns c =
    let a = c.args in
    let own : c.sum.result ≡ bytes_before a.s.now a.k =
    sum_from_yields_List _ c.sum.result c.sum.ensures.ran (YieldsList-from_map _ (byte_count_of a.s.now) (YieldsList-from_range 0 a.k a.k c.map.ensures.source (omega arith)) c.map.ensures.closure (λ x r q k. search (rules, tests))) ∙ total a.s.now a.k in
    (own, omega (arith, most a.s.now a.k (λ i. omega (arith, c.type_inv.s i))))
