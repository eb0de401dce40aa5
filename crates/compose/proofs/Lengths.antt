-- How long Section 6 and the record are, by the sizes of the streams, and that a part that is filled stays as long. Assumes nothing.
use Prim.Native.Nat.{ℕ, ◌+◌, ◌-◌, ◌*◌, ◌≤◌}
use mathlib.Core.Path.{◌≡◌, refl, sym, ap, ◌∙◌}
use mathlib.Core.List.{List, [], ◌∷◌, ◌++◌, map}
use native.Mathlib.Omega.{arith}
use borrow.Rule.Slice.PartMut.{put_mid, mid_len}
use lib.ListN.{length, take, drop, length-append, length-map}
use lib.Seq.{length-take-le}
use Rattle.layout.specs.Layout.{section_length, joined, streams_data}
use Rattle.layout.proofs.Filled.{Filled, filled_front, filled_part, filled_length}
use Rattle.layout.proofs.Laws.{length_streams_data}
use Rattle.compose.specs.Writing.{total}
use Rattle.compose.specs.InnerJob.{front_size, count6, size_with}

pub total_joined : (streams : List (List ℕ)) → total (map length streams) ≡ length (joined streams)
unfolding total joined
total_joined [] = refl
total_joined (stream ∷ streams) = simp length-append (omega (arith, total_joined streams))

module _ (step interval order : ℕ) (sizes : List ℕ) (streams : List (List ℕ)) (are : sizes ≡ map length streams) where
  pub length_data : length (streams_data step interval order streams) ≡ 6 + 2 * length sizes + total sizes
  length_data = length_streams_data step interval order streams ∙ rw (are, total_joined streams, length-map streams length)

  pub section6_size : {n : ℕ} → n ≡ section_length (6 + 2 * length sizes + total sizes) → n ≡ section_length
      (length (streams_data step interval order streams))
  section6_size h = h ∙ ap section_length (sym length_data)

-- Section 6 ends where the record does
pub size_parts : (count1 count2 leads : ℕ) (sizes : List ℕ) → length sizes ≡ leads
    → size_with count1 count2 sizes ≡ front_size count1 count2 leads + section_length (count6 sizes)
size_parts count1 count2 leads sizes e = rw (← e) refl

-- the front of a part is written whole, and the part stays as long
pub front_written : (l w : List ℕ) (e : ℕ) → e ≤ length l → length w ≡ length (take e l)
    → Filled l 0 ([] ++ w) e (w ++ drop e l) × (length (w ++ drop e l) ≡ length l)
front_written l w e h n =
    let f = filled_front l w e (n ∙ length-take-le e l h) in
    (f, filled_length f h)

-- what comes next, up to e, is written whole
pub next_written : {l q x : List ℕ} {j k : ℕ} (w : List ℕ) (e : ℕ) → Filled l j q k x × (length x ≡ length l) → k ≤ e → e ≤ length l
    → length w ≡ length (take (e - k) (drop k x))
    → Filled l j (q ++ w) e (put_mid k (e - k) x w) × (length (put_mid k (e - k) x w) ≡ length l)
next_written {x = x} {k = k} w e (f, same) up h n =
    let g = filled_part w e f up (n ∙ mid_len k e x (omega arith)) in
    (g, filled_length g h)
