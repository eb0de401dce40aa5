-- Section 6 as the writer lays it out, read behind its header. Assumes nothing.
use Prim.Native.Nat.{ℕ, zero, suc, ◌+◌, ◌*◌, ◌≤◌, ◌<◌}
use mathlib.Core.Path.{◌≡◌, refl, sym, ◌∙◌}
use mathlib.Core.Bool.{true, and-eq-true_iff}
use mathlib.Core.List.{List, [], ◌∷◌, ◌++◌}
use native.Mathlib.Omega.{arith}
use borrow.Author.Tests.{leb-true, le-leb, ne_eqb}
use lib.Dec.{leb}
use lib.ListN.{length, get_or, length-append}
use Rattle.wire.specs.Numbers.{bytes_of}
use Rattle.wire.specs.RuleWords.{every, ends_by}
use Rattle.wire.proofs.Laws.{length_bytes_of}
use Rattle.entries.specs.Sections5And6.{step_of, interval_of, order_of, bimodal_of, byte_count_of}
use Rattle.entries.specs.Sections5And6.{bytes_before, stream_start, stream_of, streams_right, section6_right}
use Rattle.layout.specs.Layout.{byte_counts_of, joined, streams_data}
use Rattle.layout.proofs.Laws.{length_byte_counts_of, length_streams_data}
use Rattle.compose.specs.Writing.{all_short}
use Rattle.wire.proofs.Places.{Stands, stands_part, stands_byte, stands_inner, stands_first}
use Rattle.wire.proofs.Places.{stands_behind, stands_whole, stands_at, stands_written}
use Rattle.trip.proofs.Placed.{Holds}

-- the bytes of the first k streams together
unfoldable pub before : ℕ → List (List ℕ) → ℕ
before zero streams = 0
before (suc k) [] = 0
before (suc k) (x ∷ streams) = length x + before k streams

before_more : (streams : List (List ℕ)) (k : ℕ) → k < length streams
    → before (suc k) streams ≡ before k streams + length (get_or streams k [])
unfolding before
before_more [] k h = absurd (omega arith)
before_more (x ∷ streams) zero h = omega arith
before_more (x ∷ streams) (suc k) h = let e = before_more streams k (omega arith) in omega arith

-- all of them
before_all : (streams : List (List ℕ)) → before (length streams) streams ≡ length (joined streams)
unfolding before joined
before_all [] = refl
before_all (x ∷ streams) = let e = before_all streams in omega (arith, length-append x (joined streams))

count_stands : (streams : List (List ℕ)) (k : ℕ) → k < length streams
    → Stands (byte_counts_of streams) (2 * k) (bytes_of 2 (length (get_or streams k [])))
unfolding byte_counts_of
count_stands [] k h = absurd (omega arith)
count_stands (x ∷ streams) zero h = stands_first (bytes_of 2 (length x)) (byte_counts_of streams)
count_stands (x ∷ streams) (suc k) h =
    let e : length (bytes_of 2 (length x)) + 2 * k ≡ 2 * suc k = omega (arith, length_bytes_of 2 (length x)) in
    stands_at e (stands_behind (bytes_of 2 (length x)) (byte_counts_of streams) (count_stands streams k (omega arith)))

stream_stands : (streams : List (List ℕ)) (k : ℕ) → k < length streams → Stands (joined streams) (before k streams) (get_or streams k [])
unfolding joined before
stream_stands [] k h = absurd (omega arith)
stream_stands (x ∷ streams) zero h = stands_first x (joined streams)
stream_stands (x ∷ streams) (suc k) h = stands_behind x (joined streams) (stream_stands streams k (omega arith))

short_at : (streams : List (List ℕ)) → all_short streams ≡ true → (k : ℕ) → length (get_or streams k []) < 65536
unfolding all_short every
short_at [] h k = omega arith
short_at (x ∷ streams) h zero =
    let e = leb-true (length x) 65535 ((and-eq-true_iff (leb (length x) 65535) (all_short streams)).0 h).0 in
    omega arith
short_at (x ∷ streams) h (suc k) = short_at streams ((and-eq-true_iff (leb (length x) 65535) (all_short streams)).0 h).1 k

-- a Section 6 that holds them
pub record Streams (s : List ℕ) (step interval order : ℕ) (streams : List (List ℕ)) : Type 0 where
  pub holds : Holds s (streams_data step interval order streams)
  pub short : all_short streams ≡ true
  pub small : (step < 65536) × (interval < 65536)

module _ {s : List ℕ} {step interval order : ℕ} {streams : List (List ℕ)} (w : Streams s step interval order streams) where
  front_there : Stands s 16 (bytes_of 2 step ++ (bytes_of 2 interval ++ (order ∷ (0 ∷ []))))
  unfolding streams_data bytes_of
  front_there =
      let f = bytes_of 2 step ++ (bytes_of 2 interval ++ (order ∷ (0 ∷ []))) in
      stands_inner w.holds.stands (stands_first f (byte_counts_of streams ++ joined streams))

  pub streams_step : step_of s ≡ step
  streams_step =
      let inner = stands_first (bytes_of 2 step) (bytes_of 2 interval ++ (order ∷ (0 ∷ []))) in
      stands_written 2 step (omega (arith, w.small)) (stands_inner front_there inner)

  pub streams_interval : interval_of s ≡ interval
  unfolding bytes_of
  streams_interval =
      let rest = order ∷ (0 ∷ []) in
      let inner = stands_behind (bytes_of 2 step) (bytes_of 2 interval ++ rest) (stands_first (bytes_of 2 interval) rest) in
      stands_written 2 interval (omega (arith, w.small)) (stands_inner front_there inner)

  pub streams_order : order_of s ≡ order
  unfolding bytes_of
  streams_order = stands_byte front_there 4 (omega arith)

  pub streams_bimodal : bimodal_of s ≡ 0
  unfolding bytes_of
  streams_bimodal = stands_byte front_there 5 (omega arith)

  -- the bytes behind those numbers
  rest_there : Stands s 22 (byte_counts_of streams ++ joined streams)
  unfolding streams_data bytes_of
  rest_there =
      let f = bytes_of 2 step ++ (bytes_of 2 interval ++ (order ∷ (0 ∷ []))) in
      let l = byte_counts_of streams ++ joined streams in
      stands_inner w.holds.stands (stands_behind f l (stands_whole l))

  streams_bytes : (k : ℕ) → k < length streams → byte_count_of s k ≡ length (get_or streams k [])
  streams_bytes k there =
      let n = length (get_or streams k []) in
      let counts = stands_inner rest_there (stands_first (byte_counts_of streams) (joined streams)) in
      stands_written 2 n (short_at streams w.short k) (stands_inner counts (count_stands streams k there))

  streams_before : (k : ℕ) → k ≤ length streams → bytes_before s k ≡ before k streams
  unfolding bytes_before before
  streams_before zero there = refl
  streams_before (suc k) there =
      rw (streams_before k (omega arith), streams_bytes k (omega arith)) (sym (before_more streams k (omega arith)))

  -- each lead's stream is cut out
  pub streams_stream : (k : ℕ) → k < length streams → stream_of (length streams) s k ≡ get_or streams k []
  unfolding stream_of stream_start
  streams_stream k there =
      let n = length streams in
      let inner = stands_behind (byte_counts_of streams) (joined streams) (stream_stands streams k there) in
      let e : 22 + (length (byte_counts_of streams) + before k streams) ≡ 22 + 2 * n + before k streams = omega (arith, length_byte_counts_of streams) in
      rw (streams_before k (omega arith), streams_bytes k there) (stands_part (stands_at e (stands_inner rest_there inner)))

  -- the section keeps its rule
  pub streams_kept : (step ≡ 0 → ⊥) → (interval ≡ 0 → ⊥) → order ≤ 2 → section6_right (length streams) s ≡ true
  unfolding section6_right streams_right ends_by stream_start
  streams_kept a b c =
      let n = length streams in
      let l = length_streams_data step interval order streams in
      let e = streams_before n (omega arith) ∙ before_all streams in
      let low = le-leb (22 + 2 * n + length (joined streams)) (length s) (omega (arith, w.holds.moved.least)) in
      let top = le-leb (length s) (22 + 2 * n + length (joined streams) + 1) (omega (arith, w.holds.moved.most)) in
      rw (
        streams_bimodal,
        streams_step,
        streams_interval,
        streams_order,
        ne_eqb step 0 a,
        ne_eqb interval 0 b,
        le-leb order 2 c,
        e,
        low,
        top,
      )
