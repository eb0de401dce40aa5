-- Laws for the loop that puts the pointers. Assumes nothing.
use Prim.Native.Nat.{ℕ, zero, suc, ◌+◌, ◌*◌}
use mathlib.Core.Path.{◌≡◌, refl, sym, ap, ◌∙◌}
use mathlib.Core.List.{List, ◌∷◌, ◌++◌, append_assoc}
use native.Mathlib.Nat.{add-zero, suc-add}
use native.Mathlib.Omega.{arith}
use lib.ListN.{length, take, drop}
use Rattle.wire.proofs.Laws.{put_next}
use Rattle.pointers.specs.Pointers.{id_of, length_of, index_of, pointers_from}

-- three numbers a pointer
pub length_pointers : (r : List ℕ) (k n : ℕ) → length (pointers_from r k n) ≡ 3 * n
unfolding pointers_from
length_pointers r k zero = refl
length_pointers r k (suc n) = let h = length_pointers r (k + 1) n in omega arith

-- one more pointer is put after those that are there
pub pointers_more : (r : List ℕ) (k n : ℕ) → pointers_from r k (n + 1) ≡ pointers_from r k n ++ pointers_from r (k + n) 1
unfolding pointers_from
pointers_more r k zero = rw add-zero
pointers_more r k (suc n) =
    let e : k + 1 + n ≡ k + suc n = omega arith in
    let h = rw e at (pointers_more r (k + 1) n) in
    rw suc-add (ap (λ (l : List ℕ). id_of r k ∷ (length_of r k ∷ (index_of r k ∷ l))) h)

-- a turn of that loop: with n pointers put before the rest of the list l, the next is put at its place
pub put_turn : (r l now : List ℕ) (n : ℕ) → now ≡ pointers_from r 0 n ++ drop (3 * n) l →
    take (3 * n) now ++ (pointers_from r n 1 ++ drop (3 * n + 3) now) ≡ pointers_from r 0 (n + 1) ++ drop (3 * (n + 1)) l
put_turn r l now n so =
    let e : 3 * n + 3 ≡ 3 * (n + 1) = omega arith in
    let z : 0 + n ≡ n = omega arith in
    rw so (put_next (pointers_from r 0 n) (pointers_from r n 1) l (3 * n) 3 (length_pointers r 0 n)
    ∙ rw (pointers_more r 0 n, z, e) (sym (append_assoc (pointers_from r 0 n) (pointers_from r n 1) (drop (3 * (n + 1)) l))))
