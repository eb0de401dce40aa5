-- A section that the writer wrote is where its pointer says, and its data are read behind its header as they were given. Assumes
-- nothing.
use Prim.Native.Nat.{ℕ, ◌+◌, ◌%◌, ◌<◌}
use mathlib.Core.Path.{◌≡◌, refl, sym, ap, ◌∙◌}
use mathlib.Core.Bool.{true, not}
use mathlib.Core.List.{List, ◌∷◌, ◌++◌}
use native.Mathlib.Omega.{arith}
use borrow.Author.Tests.{ne_eqb}
use lib.ListN.{length}
use lib.Seq.{get_or-append-add}
use Rattle.wire.specs.Numbers.{byte_at}
use Rattle.wire.proofs.Places.{Moved, Stands}
use Rattle.pointers.specs.Pointers.{present, start_of, section_of}
use Rattle.packing.proofs.Laws.{zeros_behind}
use Rattle.layout.specs.Layout.{evened, section_bytes, zero_reserved}
use Rattle.layout.proofs.Laws.{length_section_bytes}
use Rattle.sections.specs.Sections.{section_with}
use Rattle.sections.proofs.Sound.{head_with, with_headed, length_head_with, length_with, with_data, plain_with}
use Rattle.sections.proofs.Pointed.{Pointed, pointed_present, pointed_there, pointed_section}

-- ---- data behind a header

-- the spare byte reads as no byte would
evened_byte : (s : List ℕ) (i : ℕ) → byte_at (evened s) i ≡ byte_at s i
unfolding evened
evened_byte s i = zeros_behind s (length s % 2) i

-- a section s has data d behind its header: all that is read there is as in the data alone, and the data are there
pub record Holds (s d : List ℕ) : Type 0 where
  pub moved : Moved s 16 d
  pub stands : Stands s 16 d

-- a section made with these data has them
with_holds : (id : ℕ) (unjudged d : List ℕ) → length unjudged ≡ 8 → Holds (section_with id unjudged d) d
with_holds id unjudged d eight =
    let h = head_with id unjudged d in
    let size = length_with id unjudged d eight in
    let byte : (i : ℕ) → byte_at (h ++ evened d) (16 + i) ≡ byte_at d i =
    λ i. ap (λ (k : ℕ). byte_at (h ++ evened d) (k + i)) (sym (length_head_with id unjudged d eight))
    ∙ get_or-append-add h (evened d) i 0
    ∙ evened_byte d i in
    record {
      moved = record {
        byte = λ i. rw (with_headed id unjudged d) (byte i);
        least = omega (arith, size);
        most = omega (arith, size);
      };
      stands = with_data id unjudged d eight;
    }

pub section_holds : (id version : ℕ) (d : List ℕ) → Holds (section_bytes id version zero_reserved d) d
section_holds id version d =
    rw (plain_with id version zero_reserved d) (with_holds id (version ∷ (version ∷ zero_reserved)) d refl)

-- ---- in the record

-- section k is present, is found where its pointer says, and has data d
pub record Placed (r : List ℕ) (k : ℕ) (d : List ℕ) : Type 0 where
  pub present : present r k ≡ true
  pub there : Stands r (start_of r k) (section_of r k)
  pub holds : Holds (section_of r k) d

pub written_placed : {r : List ℕ} {k place id : ℕ} (version : ℕ) {d : List ℕ} → Pointed r k place id (section_bytes k version zero_reserved d)
    → Placed r k d
written_placed {r} {k} version {d} p =
    let s = section_bytes k version zero_reserved d in
    let some : 0 < length s = omega (arith, length_section_bytes k version zero_reserved d refl) in
    let e = pointed_section p in
    record {
      present = pointed_present p ∙ ap not (ne_eqb (length s) 0 (λ n. absurd (omega (arith, some))));
      there = rw e (pointed_there p some);
      holds = rw e (section_holds k version d);
    }
