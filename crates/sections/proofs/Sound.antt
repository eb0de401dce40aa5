-- The rules of a sound section one by one; a section made new keeps them, and its parts are where they should be. Assumes nothing.
use Prim.Native.Nat.{ℕ, ◌+◌, ◌%◌, ◌≤◌, ◌<◌}
use mathlib.Core.Path.{◌≡◌, refl, sym, ap, ◌∙◌}
use mathlib.Core.Bool.{Bool, true, false, or-true, and-eq-true_iff}
use mathlib.Core.List.{List, ◌∷◌, ◌++◌}
use mathlib.Core.Logic.{◌⊎◌, inl, inr}
use native.Mathlib.Omega.{arith}
use borrow.Author.Tests.{leb-true, eqb-true, le-leb, eq-eqb}
use lib.Dec.{leb, eqb}
use lib.ListN.{length, replicate, length-append, length-replicate}
use Rattle.wire.specs.Numbers.{number_at, bytes_of}
use Rattle.wire.specs.Check.{crc_of}
use Rattle.wire.proofs.Laws.{length_bytes_of}
use Rattle.wire.proofs.Places.{Stands, stands_inner, stands_first, stands_behind, stands_at, stands_written}
use Rattle.record.specs.RecordRules.{holds_check}
use Rattle.layout.specs.Layout.{evened, section_length, checked, section_bytes}
use Rattle.sections.specs.Sections.{Section, sound, usable, section_with}
use Rattle.sections.proofs.Parts.{checked_body, checked_holds}

-- ---- its rules

pub record Sound (id : ℕ) (s : List ℕ) : Type 0 where
  pub even : length s % 2 ≡ 0
  pub least : 16 ≤ length s
  pub own : number_at 2 s 2 ≡ id
  pub size : number_at 4 s 4 ≡ length s
  pub check : holds_check s 0 (length s) ≡ true

pub sound_parts : (id : ℕ) (s : List ℕ) → sound id s ≡ true → Sound id s
unfolding sound
sound_parts id s h =
    let a = (and-eq-true_iff (eqb (length s % 2) 0) _).0 h in
    let b = (and-eq-true_iff (leb 16 (length s)) _).0 a.1 in
    let c = (and-eq-true_iff (eqb (number_at 2 s 2) id) _).0 b.1 in
    let d = (and-eq-true_iff (eqb (number_at 4 s 4) (length s)) _).0 c.1 in
    record {
      even = eqb-true (length s % 2) 0 a.0;
      least = leb-true 16 (length s) b.0;
      own = eqb-true (number_at 2 s 2) id c.0;
      size = eqb-true (number_at 4 s 4) (length s) d.0;
      check = d.1;
    }

pub parts_sound : {id : ℕ} {s : List ℕ} → Sound id s → sound id s ≡ true
unfolding sound
parts_sound {id} {s} p =
    rw (
      eq-eqb (length s % 2) 0 p.even,
      le-leb 16 (length s) p.least,
      eq-eqb (number_at 2 s 2) id p.own,
      eq-eqb (number_at 4 s 4) (length s) p.size,
      p.check,
    )

-- absent or sound
pub usable_cases : (s : Section) → usable s ≡ true → (length s.bytes ≡ 0) ⊎ Sound s.id s.bytes
unfolding usable
usable_cases s h = go (eqb (length s.bytes) 0) refl
  where
    go : (b : Bool) → eqb (length s.bytes) 0 ≡ b → (length s.bytes ≡ 0) ⊎ Sound s.id s.bytes
    go true e = inl (eqb-true (length s.bytes) 0 e)
    go false e = inr (sound_parts s.id s.bytes (rw e at h))

pub sound_usable : (s : Section) → Sound s.id s.bytes → usable s ≡ true
unfolding usable
sound_usable s p = rw (parts_sound p) (or-true (eqb (length s.bytes) 0))

-- ---- one made new

length_evened : (d : List ℕ) → length (evened d) ≡ length d + length d % 2
unfolding evened
length_evened d = simp (length-append, length-replicate)

module _ (id : ℕ) (unjudged d : List ℕ) where
  abbrev s : List ℕ
  s = section_with id unjudged d

  -- its length's bytes, and those that its check is taken over
  abbrev size : List ℕ
  size = bytes_of 4 (section_length (length d))

  abbrev body : List ℕ
  body = bytes_of 2 id ++ (size ++ (unjudged ++ evened d))

  with_checked : s ≡ checked body
  unfolding section_with
  with_checked = refl

  -- its header
  unfoldable pub head_with : List ℕ
  head_with = bytes_of 2 (crc_of body) ++ (bytes_of 2 id ++ (size ++ unjudged))

  pub with_headed : s ≡ head_with ++ evened d
  unfolding section_with checked head_with bytes_of
  with_headed = refl

  -- the bytes that are not judged are behind the length
  pub with_unjudged : Stands s 8 unjudged
  unfolding section_with checked bytes_of
  with_unjudged =
      record { front = bytes_of 2 (crc_of body) ++ (bytes_of 2 id ++ size); rest = evened d; split = refl; place = refl }

  module _ (eight : length unjudged ≡ 8) where
    pub length_head_with : length head_with ≡ 16
    unfolding head_with bytes_of
    length_head_with = omega arith

    pub length_with : length s ≡ section_length (length d)
    length_with = ap length with_headed ∙ length-append head_with (evened d) ∙ omega (arith, length_head_with, length_evened d)

    -- the data are behind the header
    pub with_data : Stands s 16 d
    unfolding evened
    with_data =
        let inner = stands_behind head_with (evened d) (stands_first d (replicate {A = ℕ} (length d % 2) 0)) in
        rw with_headed (stands_at (ap (λ (n : ℕ). n + 0) length_head_with) inner)

    -- it is sound where its ID and its length have room
    pub with_parts : id < 65536 → section_length (length d) < 4294967296 → Sound id s
    with_parts a b =
        let there : Stands s 2 body = rw with_checked (checked_body body) in
        let rest = unjudged ++ evened d in
        let behind = stands_behind (bytes_of 2 id) (size ++ rest) (stands_first size rest) in
        let e : 2 + (length (bytes_of 2 id) + 0) ≡ 4 = omega (arith, length_bytes_of 2 id) in
        let four = stands_at e (stands_inner there behind) in
        record {
          even = omega (arith, length_with);
          least = omega (arith, length_with);
          own = stands_written 2 id a (stands_inner there (stands_first (bytes_of 2 id) (size ++ rest)));
          size = stands_written 4 (section_length (length d)) b four ∙ sym length_with;
          check = rw with_checked (checked_holds body);
        }

    pub with_sound : id < 65536 → section_length (length d) < 4294967296 → sound id s ≡ true
    with_sound a b = parts_sound (with_parts a b)

-- a section of the layout has its version byte twice
pub plain_with : (id version : ℕ) (reserved d : List ℕ)
    → section_bytes id version reserved d ≡ section_with id (version ∷ (version ∷ reserved)) d
unfolding section_bytes section_with
plain_with id version reserved d = refl
