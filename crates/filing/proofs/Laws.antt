-- Laws of adding that the proofs cite: what an accepted record keeps, and bytes moved on. Assumes nothing.
use Prim.Native.Nat.{ℕ, ◌+◌, ◌-◌, ◌≤◌, ◌<◌}
use mathlib.Core.Path.{◌≡◌, refl, sym, ◌∙◌}
use mathlib.Core.Bool.{Bool, true, false, cond, and-eq-true_iff}
use mathlib.Core.List.{List, [], ◌++◌}
use native.Mathlib.Omega.{arith}
use lib.Dec.{leb}
use lib.ListN.{length, take, drop}
use lib.Seq.{length-take-le, take-append-le, take-take, drop_at}
use borrow.Rule.Slice.PartMut.{put_mid, post_of, Post-is}
use borrow.Author.Tests.{leb-true, eq-eqb, eqb-false}
use Rattle.wire.specs.Numbers.{part}
use Rattle.wire.proofs.Laws.{kept_first}
use Rattle.record.specs.Opening.{open_refusal, opens}
use Rattle.index.specs.Entry.{entry_size, date_right}
use Rattle.index.specs.Index.{is_index, index_right}
use Rattle.fields.specs.Recording.{identifier_of}
use Rattle.fields.proofs.Recording.{identified}
use Rattle.packing.specs.declared.Sink.{Sink}
use Rattle.packing.specs.InnerSink.{Holds, bits_put}
use Rattle.packing.proofs.Sinks.{holds_length}
use Rattle.filing.specs.Filing.{section3_kept, entry_of, date_kept, room_right, add_refusal}

-- of a right index no more is in use than was lent
pub index_used : (lent : List ℕ) (used : ℕ) → index_right lent used ≡ true → used ≤ length lent
unfolding index_right
index_used lent used h = leb-true used (length lent) ((and-eq-true_iff (leb used (length lent)) (is_index (take used lent))).0 h).0

-- ---- when adding accepts a record

-- where opening decides between other rules and its own refusal, and that is 0, the record opens and the other rules are kept
opened_first : (r : List ℕ) (later : ℕ) → cond (opens r) later (open_refusal r) ≡ 0 → (opens r ≡ true) × (later ≡ 0)
unfolding opens
opened_first r later h = go (opens r) refl h
  where
    go : (b : Bool) → opens r ≡ b → cond b later (open_refusal r) ≡ 0 → (opens r ≡ true) × (later ≡ 0)
    go true e h = (e, h)
    go false e h = absurd (eqb-false (open_refusal r) 0 e h)

-- what an accepted record keeps
pub record Kept (lent : List ℕ) (used : ℕ) (r : List ℕ) : Type 0 where
  pub index : index_right lent used ≡ true
  pub opened : opens r ≡ true
  pub section3 : section3_kept r ≡ true
  pub date : date_kept r ≡ true
  pub room : used + entry_size (entry_of r) ≤ length lent

pub all_kept_lem : (lent : List ℕ) (used : ℕ) (r : List ℕ) → add_refusal lent used r ≡ 0 → Kept lent used r
unfolding add_refusal room_right
all_kept_lem lent used r h =
    let i = kept_first (index_right lent used) 25 _ h in
    let o = opened_first r _ i.1 in
    let k = kept_first (section3_kept r) 7 _ o.1 in
    let d = kept_first (date_kept r) 23 _ k.1 in
    let m = kept_first (room_right lent used r) 10 _ d.1 in
    record {
      index = i.0;
      opened = o.0;
      section3 = k.0;
      date = d.0;
      room = leb-true (used + entry_size (entry_of r)) (length lent) m.0;
    }

-- the identifier of an opened record has room in its bits
pub identifier_room : (r : List ℕ) → open_refusal r ≡ 0 → length (identifier_of r) < 64
unfolding opens
identifier_room r h = let k = identified r (eq-eqb (open_refusal r) 0 h) in omega (arith, k.most)

-- and so has a date that is not refused
pub date_room : (month day : ℕ) (right : Bool) → ◌≡◌ {A = ℕ} 0 (cond right 0 24) → right ≡ date_right month day → (month < 16) × (day < 32)
unfolding date_right
date_room month day false h e = absurd (omega arith)
date_room month day true h e =
    let a = (and-eq-true_iff (leb 1 month) _).0 (sym e) in
    let b = (and-eq-true_iff (leb month 12) _).0 a.1 in
    let c = (and-eq-true_iff (leb 1 day) _).0 b.1 in
    let m = leb-true month 12 b.0 in
    let d = leb-true day 31 c.1 in
    (omega arith, omega arith)

-- ---- bytes moved on

-- what is in use from i on stands `size` bytes further on
abbrev pub moved_on : List ℕ → ℕ → ℕ → ℕ → List ℕ
moved_on l i used size = take (i + size) l ++ (part l i used ++ drop (used + size) l)

-- bytes are put where others were moved on from
pub put_between : (l zs : List ℕ) (at used size : ℕ) → at ≤ used → used + size ≤ length l
    → put_mid at (at + size - at) (moved_on l at used size) zs ≡ take at l ++ (zs ++ (part l at used ++ drop (used + size) l))
put_between l zs at used size h g =
    let front = take (at + size) l in
    let rest = part l at used ++ drop (used + size) l in
    let long = length-take-le (at + size) l (omega arith) in
    let first : take at (moved_on l at used size) ≡ take at l =
    take-append-le at front rest (omega (arith, long)) ∙ take-take at (at + size) l (omega arith) in
    let later : post_of at (at + size - at) (moved_on l at used size) ≡ rest =
    Post-is at (at + size) (moved_on l at used size) (omega arith) ∙ drop_at front rest (at + size) long in
    rw (first, later)

-- nothing is put yet
pub none_put : (s : Sink) → ((out : List ℕ) → Holds out s []) → bits_put s ≡ 0
none_put s h = sym (holds_length [] s [] (h []))

pub ruleset adding = (index_used)
