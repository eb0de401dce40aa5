-- Two's complement there and back, lists of bits, and what the rule of the search says. Assumes nothing.
use Prim.Native.Nat.{ℕ, zero, suc, ◌-◌, ◌%◌, ◌^◌, ◌<◌}
use mathlib.Core.Path.{◌≡◌, refl, ap}
use mathlib.Core.Bool.{Bool, true, false, cond, ◌&&◌}
use mathlib.Core.List.{List, [], ◌∷◌}
use native.Mathlib.Nat.{mod-eq_of_lt, mod-lt}
use native.Mathlib.Omega.{arith}
use borrow.Author.Tests.{ltb-true, ltb-false, lt-ltb, le-ltb, eq-eqb, ne_eqb, eqb-true, eqb-false}
use lib.Dec.{ltb, eqb}
use lib.IntN.{ℤ, pos, negsuc}
use lib.Pow.{pow_pos}
use lib.Signed.{mag}
use Rattle.wire.proofs.Laws.{unlike}
use Rattle.wire.specs.RuleWords.{every}
use Rattle.bits.specs.Bits.{signed}
use Rattle.bits.proofs.Laws.{Small}
use Rattle.tables.specs.declared.Structure.{Structure}
use Rattle.tables.specs.Structures.{remainder_of}
use Rattle.reading.specs.Reading.{gave, read_next}
use Rattle.paths.specs.InnerPaths.{dead, gives, leads}
use Rattle.shortest.specs.Shortest.{are_bits, ReadsTo, done, value}
use Rattle.shortest.specs.InnerRule.{twos, equal, serves, kind_of}

-- ---- two's complement

pub twos_small : (w : ℕ) (v : ℤ) → twos w v < 2 ^ w
unfolding twos
twos_small w (pos n) = mod-lt n (pow_pos w)
twos_small w (negsuc n) = omega (arith, pow_pos w)

-- a number that w + 1 bits hold is what its bits are
pub signed_twos : (w : ℕ) (v : ℤ) → mag v < 2 ^ w → signed (suc w) (twos (suc w) v) ≡ v
unfolding signed twos
signed_twos w (pos n) h =
    let e : n % 2 ^ suc w ≡ n = mod-eq_of_lt (omega arith) in
    let f : suc w - 1 ≡ w = omega arith in
    rw (e, f) (rw (lt-ltb n (2 ^ w) h) refl)
signed_twos w (negsuc n) h =
    let e : n % 2 ^ suc w ≡ n = mod-eq_of_lt (omega arith) in
    let f : suc w - 1 ≡ w = omega arith in
    rw (e, f) (rw (le-ltb (2 ^ suc w - suc n) (2 ^ w) (omega arith)) (ap negsuc (omega arith)))

-- w + 1 bits are what the number that they are has for bits, and hold it
pub twos_signed : (w x : ℕ) → x < 2 ^ suc w → (twos (suc w) (signed (suc w) x) ≡ x) × (mag (signed (suc w) x) < 2 ^ w)
unfolding signed twos
twos_signed w x h = go (ltb x (2 ^ (suc w - 1))) refl
  where
    f : 2 ^ (suc w - 1) ≡ 2 ^ w
    f = ap (λ (z : ℕ). 2 ^ z) {x = suc w - 1} {y = w} (omega arith)

    go : (b : Bool) → ltb x (2 ^ (suc w - 1)) ≡ b
        → (twos (suc w) (cond b (pos x) (negsuc (2 ^ suc w - suc x))) ≡ x) × (mag (cond b (pos x) (negsuc (2 ^ suc w - suc x))) < 2 ^ w)
    go true e = (mod-eq_of_lt h, omega (arith, ltb-true x (2 ^ (suc w - 1)) e, f))
    go false e =
        let l : 2 ^ suc w - suc x < 2 ^ w = omega (arith, ltb-false x (2 ^ (suc w - 1)) e, f) in
        let m : (2 ^ suc w - suc x) % 2 ^ suc w ≡ 2 ^ suc w - suc x = mod-eq_of_lt (omega arith) in
        (rw m (omega arith), l)

-- a base value has 16 bits
pub base_small : (base : ℕ) → mag (signed 16 base) < 32768
unfolding signed
base_small base = go (ltb base 32768) refl
  where
    go : (b : Bool) → ltb base 32768 ≡ b → mag (cond b (pos base) (negsuc (65536 - suc base))) < 32768
    go true e = ltb-true base 32768 e
    go false e = omega (arith, ltb-false base 32768 e)

pub equal_true : (a b : ℤ) → equal a b ≡ true → a ≡ b
unfolding equal
equal_true (pos m) (pos n) e = ap pos (eqb-true m n e)
equal_true (pos m) (negsuc n) e = unlike cc
equal_true (negsuc m) (pos n) e = unlike cc
equal_true (negsuc m) (negsuc n) e = ap negsuc (eqb-true m n e)

pub equal_self : (a : ℤ) → equal a a ≡ true
unfolding equal
equal_self (pos n) = eq-eqb n n refl
equal_self (negsuc n) = eq-eqb n n refl

-- ---- lists of bits

pub bits_small : (l : List ℕ) → are_bits l ≡ true → Small l
unfolding are_bits every
bits_small [] h i = omega arith
bits_small (b ∷ l) h i = go (ltb b 2) refl h (bits_small l) i
  where
    go : (t : Bool) → ltb b 2 ≡ t → t && are_bits l ≡ true → (are_bits l ≡ true → Small l) → Small (b ∷ l)
    go true e g rest zero = ltb-true b 2 e
    go true e g rest (suc j) = rest g j
    go false e g rest j = unlike cc

pub small_bits : (l : List ℕ) → Small l → are_bits l ≡ true
unfolding are_bits every
small_bits [] h = refl
small_bits (b ∷ l) h = rw (lt-ltb b 2 (h 0)) (small_bits l (λ i. h (suc i)))

-- ---- what a structure does

-- by its mode
pub kind_switch : (c : Structure) (v : ℤ) → c.mode ≡ 0 → kind_of c v ≡ leads c.base
unfolding kind_of
kind_switch c v m = rw (eq-eqb c.mode 0 m)

pub kind_value : (c : Structure) (v : ℤ) → (c.mode ≡ 0 → ⊥) → serves (remainder_of c) c.base v ≡ true → kind_of c v ≡ gives
unfolding kind_of
kind_value c v m s = rw (ne_eqb c.mode 0 m, s)

pub kind_dead : (c : Structure) (v : ℤ) → (c.mode ≡ 0 → ⊥) → serves (remainder_of c) c.base v ≡ false → kind_of c v ≡ dead
unfolding kind_of
kind_dead c v m s = rw (ne_eqb c.mode 0 m, s)

pub leads_switch : (c : Structure) (v : ℤ) (u : ℕ) → kind_of c v ≡ leads u → (c.mode ≡ 0) × (c.base ≡ u)
unfolding kind_of
leads_switch c v u e = go (eqb c.mode 0) refl (serves (remainder_of c) c.base v) e
  where
    go : (a : Bool) → eqb c.mode 0 ≡ a → (b : Bool) → cond a (leads c.base) (cond b gives dead) ≡ leads u
        → (c.mode ≡ 0) × (c.base ≡ u)
    go true q b h = (eqb-true c.mode 0 q, cc)
    go false q true h = unlike cc
    go false q false h = unlike cc

pub gives_value : (c : Structure) (v : ℤ) → kind_of c v ≡ gives → (c.mode ≡ 0 → ⊥) × (serves (remainder_of c) c.base v ≡ true)
unfolding kind_of
gives_value c v e = go (eqb c.mode 0) refl (serves (remainder_of c) c.base v) refl e
  where
    go : (a : Bool) → eqb c.mode 0 ≡ a → (b : Bool) → serves (remainder_of c) c.base v ≡ b
        → cond a (leads c.base) (cond b gives dead) ≡ gives → (c.mode ≡ 0 → ⊥) × (serves (remainder_of c) c.base v ≡ true)
    go true q b p h = unlike cc
    go false q true p h = (eqb-false c.mode 0 q, p)
    go false q false p h = unlike cc

-- ---- what a stream reads to

-- one for no value is empty
pub reads_none : {tables : List (List Structure)} {t : ℕ} {bs : List ℕ} {vs : List ℤ} → ReadsTo tables t bs vs → vs ≡ [] → bs ≡ []
reads_none done e = refl
reads_none (value h r) e = unlike cc

-- one for a value and others gives that value first
pub record First (tables : List (List Structure)) (t : ℕ) (bs : List ℕ) (v : ℤ) (vs : List ℤ) : Type 0 where
  pub next : ℕ
  pub rest : List ℕ
  pub gives : read_next tables t bs ≡ gave v next rest
  pub later : ReadsTo tables next rest vs

pub reads_first : {tables : List (List Structure)} {t : ℕ} {bs : List ℕ} {ws : List ℤ} (v : ℤ) (vs : List ℤ) → ReadsTo tables t bs ws
    → ws ≡ v ∷ vs → First tables t bs v vs
reads_first v vs done e = unlike cc
reads_first {tables = tables} v vs (value {table = t} {next = next} {bs = bs} {rest = rest} {v = w} {vs = ws} h r) e =
    let a : w ≡ v = cc in
    let b : ws ≡ vs = cc in
    record { next = next; rest = rest; gives = rw a at h; later = rw b at r }
