-- The leads' streams, found a second time and put one behind another from the last back. Assumes nothing.
use Prim.Native.Nat.{ℕ, zero, suc, ◌+◌, ◌-◌, ◌<◌, ◌≤◌}
use mathlib.Core.Path.{◌≡◌, refl, sym, ap, ap₂, ◌∙◌}
use mathlib.Core.Bool.{Bool, true, false, cond}
use mathlib.Core.List.{List, [], ◌∷◌, ◌++◌, map}
use mathlib.Core.Option.{Option, none, some}
use native.Mathlib.Omega.{arith}
use borrow.Author.Tests.{leb-true}
use borrow.Rule.Slice.PartMut.{put_mid}
use lib.Dec.{leb, eqb}
use lib.IntN.{ℤ}
use lib.ListN.{length, get_or, take, drop}
use lib.Seq.{drop_at, drop-drop, drop-length, length-take-le}
use Rattle.packing.specs.Packing.{bytes_for, packed}
use Rattle.packing.proofs.Laws.{length_packed}
use Rattle.samples.specs.Differences.{differences}
use Rattle.shortest.specs.Shortest.{Shortest}
use Rattle.wire.proofs.Laws.{unlike}
use Rattle.layout.specs.Layout.{joined}
use Rattle.encode.specs.Encoding.{tables_given}
use Rattle.encode.proofs.Unique.{found_unique}
use Rattle.compose.specs.Writing.{total, cut, SearchFindsAll, done, lead, with_stream, packed_all}
use Rattle.compose.specs.InnerSizes.{size_found, number_with, number_for, SizedAs, StreamOf, StreamsFor}
use Rattle.compose.proofs.Sizes.{total_back, room_back, cut_back, lent}

-- ---- what is known of one lead

-- the counts before a place and those from it on
total_split : (counts : List ℕ) (k : ℕ) → total (take k counts) + total (drop k counts) ≡ total counts
unfolding total
total_split counts zero = omega arith
total_split [] (suc k) = omega arith
total_split (c ∷ counts) (suc k) = let h = total_split counts k in omega arith

-- a lead's number is 0: its stream is short, and the leads behind have 0 too
number_zero : (bs : List ℕ) (later : ℕ) → number_with (some bs) later ≡ 0 → (bytes_for (length bs) ≤ 65535) × (later ≡ 0)
number_zero bs later = go (leb (bytes_for (length bs)) 65535) refl
  where
    last : (b : Bool) → ◌≡◌ {A = ℕ} (cond b 15 16) 0 → ⊥
    last true e = omega arith
    last false e = omega arith

    go : (b : Bool) → leb (bytes_for (length bs)) 65535 ≡ b → cond b later (cond (eqb later 15) 15 16) ≡ 0
        → (bytes_for (length bs) ≤ 65535) × (later ≡ 0)
    go true e z = (leb-true (bytes_for (length bs)) 65535 e, z)
    go false e z = absurd (last (eqb later 15) z)

-- lead k has a stream, where all leads have the number 0
known_at : (s2 : List ℕ) (order : ℕ) (counts : List ℕ) (xs : List ℤ) (founds : List (Option (List ℕ))) → SearchFindsAll s2 order
    (cut counts xs) founds
    → number_for founds ≡ 0 → (k : ℕ) → k < length counts
    → StreamOf s2 order (take (get_or counts k 0) (drop (total (take k counts)) xs)) (get_or (map size_found founds) k 0)
unfolding cut number_for total
known_at s2 order [] xs founds all z k h = absurd (omega arith)
known_at s2 order (c ∷ counts) xs [] all z k h = elim all [ ]
known_at s2 order (c ∷ counts) xs (none ∷ founds) (lead F all) z k h = absurd (omega arith)
known_at s2 order (c ∷ counts) xs (some bs ∷ founds) (lead F all) z zero h =
    let p = number_zero bs (number_for founds) z in
    (bs, F, p.0, omega (arith, p.0))
known_at s2 order (c ∷ counts) xs (some bs ∷ founds) (lead F all) z (suc k) h =
    let w = known_at s2 order counts (drop c xs) founds all (number_zero bs (number_for founds) z).1 k (omega arith) in
    let e : drop (total (take k counts)) (drop c xs) ≡ drop (c + total (take k counts)) xs = drop-drop (total (take k counts)) c xs in
    (w.0, rw e at w.1, w.2, w.3)

-- ---- one lead more

-- streams where the first lead has one
streams_split : (bs : List ℕ) (founds : List (Option (List ℕ))) (streams : List (List ℕ)) → packed_all (some bs ∷ founds) ≡ some streams
    → (rest : List (List ℕ)) × (packed_all founds ≡ some rest) × (streams ≡ packed bs ∷ rest)
unfolding packed_all
streams_split bs founds streams = go (packed_all founds) refl
  where
    go : (found : Option (List (List ℕ))) → packed_all founds ≡ found → with_stream bs found ≡ some streams
        → (rest : List (List ℕ)) × (packed_all founds ≡ some rest) × (streams ≡ packed bs ∷ rest)
    go none e f = unlike cc
    go (some rest) e f = (rest, e, cc)

-- all of a part is written, and the rest stays
drop_put : (part zs : List ℕ) (p from : ℕ) → p ≤ from → from ≤ length part → drop p (put_mid p (from - p) part zs) ≡ zs ++ drop from part
drop_put part zs p from h g =
    let e : p + (from - p) ≡ from = omega arith in
    drop_at (take p part) (zs ++ drop (from - p) (drop p part)) p (length-take-le p part (omega arith))
    ∙ rw (drop-drop (from - p) p part, e)

none_first : (founds : List (Option (List ℕ))) (streams : List (List ℕ)) → packed_all (none ∷ founds) ≡ some streams → ⊥
unfolding packed_all
none_first founds streams e = unlike cc

no_streams : (streams : List (List ℕ)) → packed_all [] ≡ some streams → streams ≡ []
unfolding packed_all
no_streams streams e = cc

module _ (s2 : List ℕ) (order : ℕ) (counts : List ℕ) (xs : List ℤ) (sizes : List ℕ) (S : SizedAs s2 order (cut counts xs) 0 sizes)
    (k : ℕ) (h : 0 < k) (g : k ≤ length counts) (at all : ℕ) (here : at + total (drop k counts) ≡ all) (sum : total counts ≡ all) where
  abbrev count : ℕ
  count = get_or counts (k - 1) 0

  abbrev samples : List ℤ
  samples = take (at - (at - count)) (drop (at - count) xs)

  -- the second search finds the stream that was sized
  pub stream_here : (size : ℕ) → size ≡ get_or sizes (k - 1) 0 → StreamOf s2 order samples size
  stream_here size is =
      let w = known_at s2 order counts xs S.founds S.all (sym S.says) (k - 1) (omega arith) in
      let e : total (take (k - 1) counts) ≡ at - count =
      omega (arith, total_split counts (k - 1), total_back counts k h g, room_back counts k h g at all here sum) in
      (w.0, rw (lent counts k h g at all here sum xs) (rw e at w.1), w.2, rw (is, S.each) w.3)

  -- its bytes come before those of the leads behind
  pub put_more : (part zs : List ℕ) (from : ℕ) → from ≤ length part → get_or sizes (k - 1) 0 ≤ from
      → ((bs : List ℕ) → Shortest (tables_given s2) (differences order samples) bs → zs ≡ packed bs)
      → ((streams : List (List ℕ)) → StreamsFor s2 order (cut (drop k counts) (drop at xs)) streams → drop from part ≡ joined streams)
      → (streams : List (List ℕ)) → StreamsFor s2 order (cut (drop (k - 1) counts) (drop (at - count) xs)) streams
      → drop (from - get_or sizes (k - 1) 0) (put_mid (from - get_or sizes (k - 1) 0) (from - (from - get_or sizes (k - 1) 0)) part zs)
      ≡ joined streams
  unfolding joined
  put_more part zs from l m put later streams (founds, all', e) =
      drop_put part zs (from - get_or sizes (k - 1) 0) from (omega arith) l ∙ go founds
      (rw (cut_back counts k h g at all here sum xs) at all') e
    where
      go : (founds : List (Option (List ℕ))) → SearchFindsAll s2 order
          (take count (drop (at - count) xs) ∷ cut (drop k counts) (drop at xs)) founds
          → packed_all founds ≡ some streams → zs ++ drop from part ≡ joined streams
      go [] rest e = elim rest [ ]
      go (none ∷ founds) (lead F rest) e = absurd (none_first founds streams e)
      go (some bs ∷ founds) (lead F rest) e =
          let w = streams_split bs founds streams e in
          let f : Shortest (tables_given s2) (differences order samples) bs = rw (lent counts k h g at all here sum xs) F in
          rw (w.2, put bs f, later w.0 (founds, rest, w.1))

-- no lead is left
pub put_none : (s2 : List ℕ) (order : ℕ) (counts : List ℕ) (xs : List ℤ) (part : List ℕ) (streams : List (List ℕ))
    → StreamsFor s2 order (cut (drop (length counts) counts) (drop (length xs) xs)) streams → drop (length part) part ≡ joined streams
unfolding cut joined packed_all
put_none s2 order counts xs part streams (founds, all, e) = drop-length part ∙ go founds (rw (drop-length counts) at all) e
  where
    go : (founds : List (Option (List ℕ))) → SearchFindsAll s2 order [] founds → packed_all founds ≡ some streams → [] ≡ joined streams
    go [] done e = rw (no_streams streams e)
    go (found ∷ founds) all e = elim all [ ]

-- all are put
pub put_all : (s2 : List ℕ) (order : ℕ) (counts : List ℕ) (xs : List ℤ) (part : List ℕ) (k at from : ℕ) → k ≡ 0 → at ≡ 0 → from ≡ 0
    → ((streams : List (List ℕ)) → StreamsFor s2 order (cut (drop k counts) (drop at xs)) streams → drop from part ≡ joined streams)
    → (streams : List (List ℕ)) → StreamsFor s2 order (cut counts xs) streams → part ≡ joined streams
put_all s2 order counts xs part k at from z y x all = rw (z, y, x) at all

-- ---- all streams

-- one thing at most is found for the leads
pub founds_unique : {s2 : List ℕ} {order : ℕ} {xss : List (List ℤ)} {f g : List (Option (List ℕ))} → SearchFindsAll s2 order xss f
    → SearchFindsAll s2 order xss g → f ≡ g
founds_unique done done = refl
founds_unique (lead {found = a} {founds = f} F all) (lead {found = b} {founds = g} G other) =
    ap₂ ◌∷◌ (found_unique _ _ a b F G) (founds_unique all other)

sizes_founds : (founds : List (Option (List ℕ))) (streams : List (List ℕ)) → number_for founds ≡ 0 → packed_all founds ≡ some streams
    → map size_found founds ≡ map length streams
unfolding number_for
sizes_founds [] streams z e = let f : streams ≡ [] = no_streams streams e in rw f
sizes_founds (none ∷ founds) streams z e = absurd (omega arith)
sizes_founds (some bs ∷ founds) streams z e =
    let p = number_zero bs (number_for founds) z in
    let w = streams_split bs founds streams e in
    let one : size_found (some bs) ≡ length (packed bs) = rw (length_packed bs) (omega (arith, p.0)) in
    rw w.2 (ap₂ ◌∷◌ one (sizes_founds founds w.0 p.1 w.1))

-- the sizes are those of the streams
pub sizes_streams : {s2 : List ℕ} {order : ℕ} {xss : List (List ℤ)} {sizes : List ℕ} {streams : List (List ℕ)}
    → SizedAs s2 order xss 0 sizes
    → StreamsFor s2 order xss streams → sizes ≡ map length streams
sizes_streams {streams = streams} S (founds, all, e) =
    let same = founds_unique S.all all in
    S.each ∙ sizes_founds S.founds streams (sym S.says) (ap packed_all same ∙ e)
