-- A list filled part by part, one behind another. Assumes nothing.
use Prim.Native.Nat.{ℕ, ◌+◌, ◌-◌, ◌≤◌, ◌<◌}
use mathlib.Core.Path.{◌≡◌, refl, sym, ap, ◌∙◌}
use mathlib.Core.List.{List, [], ◌∷◌, ◌++◌, append_assoc, append-nil}
use native.Mathlib.Nat.{le_trans}
use native.Mathlib.Numerals.{add-one}
use native.Mathlib.Omega.{arith}
use borrow.Rule.Slice.PartMut.{put_mid}
use lib.ListN.{length, take, drop, set, take-append-drop, length-append, length-drop}
use lib.Seq.{length-take-le, set_split, take_at, drop_at, drop-drop, drop-length}
use Rattle.wire.specs.Numbers.{bytes_of}
use Rattle.wire.proofs.Laws.{put_next, length_bytes_of}

-- a list l has become x: from j up to k it was filled with q
pub record Filled (l : List ℕ) (j : ℕ) (q : List ℕ) (k : ℕ) (x : List ℕ) : Type 0 where
  pub start : length (take j l) ≡ j
  pub size : j + length q ≡ k
  pub is : x ≡ take j l ++ (q ++ drop k l)

-- puts begin at j
pub filled_from : (l : List ℕ) (j : ℕ) → j ≤ length l → Filled l j [] j l
filled_from l j h = record { start = length-take-le j l h; size = omega arith; is = sym (take-append-drop j l) }

-- the next m bytes are put, up to e
pub filled_put : {l q x y : List ℕ} {j k : ℕ} (b : List ℕ) (m e : ℕ) → Filled l j q k x → length b ≡ m → k + m ≡ e
    → y ≡ take k x ++ (b ++ drop (k + m) x) → Filled l j (q ++ b) e y
filled_put {l} {q} {x} {y} {j} {k} b m e f n h g =
    let p = take j l ++ q in
    let whole : length p ≡ k = length-append (take j l) q ∙ omega (arith, f.start, f.size) in
    let before : x ≡ p ++ drop k l = f.is ∙ sym (append_assoc (take j l) q (drop k l)) in
    record {
      start = f.start;
      size = rw (length-append q b) (omega (arith, f.size));
      is =
          g
          ∙ ap (λ (z : List ℕ). take k z ++ (b ++ drop (k + m) z)) before
          ∙ put_next p b l k m whole
          ∙ rw h (simp append_assoc);
    }

-- the next bytes are a number's
pub filled_number : {l q x y : List ℕ} {j k : ℕ} (w n e : ℕ) → Filled l j q k x → k + w ≡ e
    → y ≡ take k x ++ (bytes_of w n ++ drop (k + w) x) → Filled l j (q ++ bytes_of w n) e y
filled_number w n e f h g = filled_put (bytes_of w n) w e f (length_bytes_of w n) h g

-- the next byte is stored, up to e
pub filled_store : {l q x : List ℕ} {j k : ℕ} (v e : ℕ) → Filled l j q k x → k < length x → k + 1 ≡ e
    → Filled l j (q ++ (v ∷ [])) e (set x k v)
filled_store {l} {q} {x} {j} {k} v e f h g =
    filled_put (v ∷ []) 1 e f refl g (rw (add-one k) (set_split x k v h))

-- the elements from j on
pub filled_behind : {l q x : List ℕ} {j k : ℕ} → Filled l j q k x → drop j x ≡ q ++ drop k l
filled_behind {l} {q} {x} {j} {k} f = ap (drop j) f.is ∙ drop_at (take j l) (q ++ drop k l) j f.start

-- what is lent from k up to e is written whole, behind what was written before it
pub filled_part : {l q x : List ℕ} {j k : ℕ} (zs : List ℕ) (e : ℕ) → Filled l j q k x → k ≤ e → length zs ≡ e - k
    → Filled l j (q ++ zs) e (put_mid k (e - k) x zs)
filled_part {x = x} {k = k} zs e f h n =
    let m : k + (e - k) ≡ e = omega arith in
    filled_put zs (e - k) e f n m (rw (drop-drop (e - k) k x))

-- parts that are written keep the length
pub filled_length : {l q x : List ℕ} {j k : ℕ} → Filled l j q k x → k ≤ length l → length x ≡ length l
filled_length {l} {q} {x} {j} {k} f h =
    ap length f.is ∙ simp (length-append, length-drop) (omega (arith, f.start, f.size))

-- the front of a part that is lent, in its place again
pub filled_front : (l zs : List ℕ) (e : ℕ) → length zs ≡ e → Filled l 0 ([] ++ zs) e (zs ++ drop e l)
filled_front l zs e h = record { start = refl; size = omega arith; is = refl }

-- all of a list is written
filled_all : {l q x : List ℕ} {k : ℕ} → Filled l 0 q k x → k ≡ length l → x ≡ q
filled_all {l} {q} f e = f.is ∙ rw (e, drop-length l, append-nil q)

-- three sections are all of it
pub filled_three : {l p1 p2 p3 x : List ℕ} {k : ℕ} (s1 s2 s3 : List ℕ) → Filled l 0 ((([] ++ p1) ++ p2) ++ p3) k x → k ≡ length l → p1 ≡ s1
    → p2 ≡ s2 → p3 ≡ s3 → x ≡ s1 ++ (s2 ++ s3)
filled_three s1 s2 s3 f e h1 h2 h3 = filled_all f e ∙ rw (h1, h2, h3) (append_assoc s1 s2 s3)

-- what was put from one place up to another is cut out there
pub put_inside : (l zs : List ℕ) (from to : ℕ) → from ≤ to → to ≤ length l → length zs ≡ to - from
    → drop from (take to (put_mid from (to - from) l zs)) ≡ zs
put_inside l zs from to h g long =
    let start = length-take-le from l (le_trans h g) in
    let whole : length (take from l ++ zs) ≡ to = simp length-append (omega (arith, start, long)) in
    ap (λ (x : List ℕ). drop from (take to x)) (sym (append_assoc (take from l) zs (drop (to - from) (drop from l))))
    ∙ ap (drop from) (take_at (take from l ++ zs) (drop (to - from) (drop from l)) to whole)
    ∙ drop_at (take from l) zs from start
