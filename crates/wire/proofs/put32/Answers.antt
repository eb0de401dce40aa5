-- The first call puts the number's lower half, the second its upper half behind it (`put_next`): together they are its four bytes.
use mathlib.Core.Path.{◌≡◌, sym, ap, ◌∙◌}
use mathlib.Core.List.{List, ◌++◌, append_assoc}
use Prim.Native.Nat.{ℕ, ◌+◌, ◌/◌, ◌%◌}
use native.Mathlib.Nat.{mod-mod}
use native.Mathlib.Omega.{arith}
use lib.ListN.{length, take, drop, length-append, length-take}
use lib.Pow.{field}
use Rattle.wire.specs.Numbers.{bytes_of}
use Rattle.wire.proofs.Laws.{length_bytes_of, put_next}
use Rattle.wire.proofs.put32.Goals as goal

-- four bytes are the two of the lower half and the two of the upper half
halves : (n : ℕ) → bytes_of 2 (n % 65536) ++ bytes_of 2 (n / 65536) ≡ bytes_of 4 n
unfolding bytes_of
halves n =
    let upper : n / 256 / 256 ≡ n / 65536 = omega arith in
    let first : n % 65536 % 256 ≡ n % 256 = omega arith in
    let second : n % 65536 / 256 ≡ n / 256 % 256 = field n 8 8 in
    rw (upper, first, second, mod-mod (n / 256) 256)

pub returns : goal.returns
returns c = let a = c.args in
    let l = a.out.now in
    let low = bytes_of 2 (a.n % 65536) in
    let high = bytes_of 2 (a.n / 65536) in
    let p = take a.at l ++ low in
    let k = a.at + 2 in
    let end : k + 2 ≡ a.at + 4 = omega arith in
    let first : c.put16.new.out ≡ p ++ drop k l =
    c.put16.ensures ∙ sym (append_assoc (take a.at l) low (drop k l)) in
    let ends : length p ≡ k = simp (length-append, length-take, length_bytes_of) (omega arith) in
    c.put16-2.ensures
    ∙ ap (λ (x : List ℕ). take k x ++ (high ++ drop (k + 2) x)) first
    ∙ put_next p high l k 2 ends
    ∙ rw (← halves a.n, end) (simp append_assoc)
