-- The third demand for a whole record: every lead's stream has the fewest bits; 15, 16 and 11 for the output exactly when due. Assumes
-- nothing.
use Prim.Native.Nat.{ℕ, zero, suc, ◌≤◌, ◌<◌}
use mathlib.Core.Path.{◌≡◌, refl, sym, ap, ◌∙◌}
use mathlib.Core.Bool.{Bool, true, false, ◌&&◌, and-eq-true_iff}
use mathlib.Core.List.{List, [], ◌∷◌, ◌++◌, map}
use mathlib.Core.Logic.{inl, inr, ⊎_elim}
use mathlib.Core.Option.{Option, none, some}
use native.Mathlib.Omega.{arith}
use lib.Dec.{leb}
use borrow.Author.Tests.{leb-true, leb-false}
use lib.IntN.{ℤ}
use lib.ListN.{length, get_or, drop}
use lib.Seq.{ext_get_or}
use Rattle.wire.specs.RuleWords.{every, unless}
use Rattle.wire.proofs.Laws.{unlike}
use Rattle.samples.specs.Differences.{differences}
use Rattle.packing.specs.Packing.{bytes_for, packed}
use Rattle.packing.proofs.Laws.{length_packed}
use Rattle.shortest.specs.Shortest.{Shortest, NoStream}
use Rattle.encode.specs.Encoding.{tables_given, tables_given_right}
use Rattle.compose.specs.declared.Written.{Written}
use Rattle.compose.specs.Writing as C
use Rattle.compose.specs.Writing.{Job, cut, SearchFindsAll, done, lead, with_stream, packed_all, all_short, RecordWriting}
use Rattle.trip.specs.GivenBack.{JobFits, samples_of}
use Rattle.trip.proofs.Compose.{given_right, length_cut, cut_fits}
use Rattle.trip.proofs.Written.{job_kept}
use Rattle.answers.specs.Demands.{FewestAll, record_with, SomeWithout, TooLong, InBounds, WritingDue}
use Rattle.answers.proofs.Cases.{Case, first, second, third, fourth, Apart, exactly}
use Rattle.answers.proofs.Fewest.{inside, fewest, fewest_one}

-- ---- what is found for all leads

-- some lead has no stream
record Missing (s2 : List ℕ) (order : ℕ) (xss : List (List ℤ)) : Type 0 where
  pub place : ℕ
  pub there : place < length xss
  pub nothing : NoStream (tables_given s2) (differences order (get_or xss place []))

-- or each has its shortest
record AllFound (s2 : List ℕ) (order : ℕ) (xss : List (List ℤ)) (packedStreams : List (List ℕ)) : Type 0 where
  pub streams : List (List ℕ)
  pub bytes : packedStreams ≡ map packed streams
  pub many : length streams ≡ length xss
  pub shortest : (k : ℕ) → k < length xss → Shortest (tables_given s2) (differences order (get_or xss k [])) (get_or streams k [])

missing : (s2 : List ℕ) (order : ℕ) {xss : List (List ℤ)} {founds : List (Option (List ℕ))} → SearchFindsAll s2 order xss founds
    → packed_all founds ≡ none → Missing s2 order xss
unfolding packed_all
missing s2 order done h = unlike cc
missing s2 order (lead {found = none} f all) h = record { place = 0; there = omega arith; nothing = f }
missing s2 order (lead {xs = xs} {xss = xss} {found = some bs} {founds = founds} f all) h = go (packed_all founds) h (missing s2 order all)
  where
    go : (o : Option (List (List ℕ))) → with_stream bs o ≡ none → (o ≡ none → Missing s2 order xss) → Missing s2 order (xs ∷ xss)
    go none e later = let m = later refl in record { place = suc m.place; there = omega (arith, m.there); nothing = m.nothing }
    go (some streams) e later = unlike cc

all_found : (s2 : List ℕ) (order : ℕ) {xss : List (List ℤ)} {founds : List (Option (List ℕ))} (packedStreams : List (List ℕ))
    → SearchFindsAll s2 order xss founds → packed_all founds ≡ some packedStreams → AllFound s2 order xss packedStreams
unfolding packed_all
all_found s2 order ps done h =
    let e : ps ≡ [] = cc in
    record { streams = []; bytes = e; many = refl; shortest = λ k l. absurd (omega arith) }
all_found s2 order ps (lead {found = none} f all) h = unlike cc
all_found s2 order ps (lead {xs = xs} {xss = xss} {found = some bs} {founds = founds} f all) h =
    go (packed_all founds) h (λ qs. all_found s2 order qs all)
  where
    each : (streams : List (List ℕ))
        → ((k : ℕ) → k < length xss → Shortest (tables_given s2) (differences order (get_or xss k [])) (get_or streams k []))
        → (k : ℕ) → k < length (xs ∷ xss)
        → Shortest (tables_given s2) (differences order (get_or (xs ∷ xss) k [])) (get_or (bs ∷ streams) k [])
    each streams later zero l = f
    each streams later (suc k) l = later k (omega arith)

    go : (o : Option (List (List ℕ))) → with_stream bs o ≡ some ps → ((qs : List (List ℕ)) → o ≡ some qs → AllFound s2 order xss qs)
        → AllFound s2 order (xs ∷ xss) ps
    go none e later = unlike cc
    go (some qs) e later =
        let m = later qs refl in
        let q : ps ≡ packed bs ∷ qs = cc in
        record {
          streams = bs ∷ m.streams;
          bytes = q ∙ ap (λ (l : List (List ℕ)). packed bs ∷ l) m.bytes;
          many = ap suc m.many;
          shortest = each m.streams m.shortest;
        }

-- ---- the bound on each stream

short_each : (streams : List (List ℕ)) → all_short (map packed streams) ≡ true → (k : ℕ) → k < length streams
    → bytes_for (length (get_or streams k [])) ≤ 65535
unfolding all_short every
short_each [] h k l = absurd (omega arith)
short_each (bs ∷ streams) h zero l =
    let w = (and-eq-true_iff (leb (length (packed bs)) 65535) (all_short (map packed streams))).0 h in
    omega (arith, leb-true (length (packed bs)) 65535 w.0, length_packed bs)
short_each (bs ∷ streams) h (suc k) l =
    let w = (and-eq-true_iff (leb (length (packed bs)) 65535) (all_short (map packed streams))).0 h in
    short_each streams w.1 k (omega arith)

long_one : (streams : List (List ℕ)) → all_short (map packed streams) ≡ false
    → (k : ℕ) × (k < length streams) × (65535 < bytes_for (length (get_or streams k [])))
unfolding all_short every
long_one [] h = unlike cc
long_one (bs ∷ streams) h = go (leb (length (packed bs)) 65535) refl h (long_one streams)
  where
    go : (b : Bool) → leb (length (packed bs)) 65535 ≡ b → b && all_short (map packed streams) ≡ false
        → (all_short (map packed streams) ≡ false → (k : ℕ) × (k < length streams) × (65535 < bytes_for (length (get_or streams k []))))
        → (k : ℕ) × (k < length (bs ∷ streams)) × (65535 < bytes_for (length (get_or (bs ∷ streams) k [])))
    go true e g later = let w = later g in (suc w.0, omega (arith, w.1), w.2)
    go false e g later = (0, omega arith, omega (arith, leb-false (length (packed bs)) 65535 e, length_packed bs))

-- ---- writing

module _ (j : Job) (out : List ℕ) (fits : JobFits j) (right : tables_given_right j.section2 ≡ true) where
  -- a lead's samples are of 16 bits, and its tables right
  lead_none : Missing j.section2 j.order (cut j.counts j.samples) → SomeWithout j
  lead_none m =
      let tables = tables_given j.section2 in (
        m.place,
        rw (length_cut j.counts j.samples) at m.there,
        λ bs s.
            let i = inside (length tables) tables (given_right j.section2 right) j.order (samples_of j m.place) bs s in
            m.nothing i.stream i.reads,
      )

  all_fewest : {ps : List (List ℕ)} (f : AllFound j.section2 j.order (cut j.counts j.samples) ps) → FewestAll j f.streams
  all_fewest f =
      let tables = tables_given j.section2 in
      record {
        leads = f.many ∙ length_cut j.counts j.samples;
        fewest = λ k l.
            fewest (length tables) tables (given_right j.section2 right) j.order (samples_of j k) (get_or f.streams k [])
            (cut_fits j.counts j.samples fits.samples k) (f.shortest k (rw (length_cut j.counts j.samples) l));
      }

  -- no two lists of streams have the fewest bits for every lead
  all_one : {streams others : List (List ℕ)} → FewestAll j streams → FewestAll j others → streams ≡ others
  all_one {streams = streams} {others = others} f g =
      let tables = tables_given j.section2 in
      ext_get_or [] streams others (f.leads ∙ sym g.leads)
      (λ k l.
      let there : k < length j.counts = omega (arith, f.leads) in
      fewest_one (length tables) tables (given_right j.section2 right) j.order (f.fewest k there) (g.fewest k there))

  -- the four that exclude each other
  abbrev Long : Type 0
  Long = (streams : List (List ℕ)) × FewestAll j streams × TooLong j streams

  abbrev Short : Type 0
  Short = (streams : List (List ℕ)) × FewestAll j streams × InBounds j streams × (length out < length (record_with j streams))

  abbrev Fits : Type 0
  Fits = (streams : List (List ℕ)) × FewestAll j streams × InBounds j streams × (length (record_with j streams) ≤ length out)

  none_fewest : {streams : List (List ℕ)} → SomeWithout j → FewestAll j streams → ⊥
  none_fewest {streams = streams} m f = m.2 (get_or streams m.0 []) (f.fewest m.0 m.1).stream

  long_bounds : {streams others : List (List ℕ)} → FewestAll j streams → TooLong j streams → FewestAll j others → InBounds j others → ⊥
  long_bounds {streams = streams} f long g b =
      let e = all_one f g in
      ⊎_elim (λ l. omega (arith, l.2, (rw (← e) at b).each_stream l.0 l.1)) (λ l. omega (arith, l, (rw (← e) at b).whole)) long

  exclude : Apart (SomeWithout j) Long Short Fits
  exclude = record {
    first_second = λ p q. none_fewest p q.1;
    first_third = λ p q. none_fewest p q.1;
    first_fourth = λ p q. none_fewest p q.1;
    second_third = λ p q. long_bounds p.1 p.2 q.1 q.2;
    second_fourth = λ p q. long_bounds p.1 p.2 q.1 q.2;
    third_fourth = λ p q. omega (arith, p.3, q.3, ap (λ (l : List (List ℕ)). length (record_with j l)) (all_one p.1 q.1));
  }

  due : (a : Written) (o : List ℕ) → Case a.refusal (SomeWithout j) Long Short Fits
      → ((streams : List (List ℕ)) → FewestAll j streams → a.refusal ≡ 0
      → (a ≡ record { refusal = 0; bytes = length (record_with j streams) })
      × (o ≡ record_with j streams ++ drop (length (record_with j streams)) out))
      → WritingDue j out a o
  due a o c shown =
      let d = exactly a.refusal c exclude in
      record { no_code = d.0; too_long = d.1; no_room = d.2; written = d.3; answered = shown }

  -- by the bounds and the room
  by_bounds : (streams : List (List ℕ)) → FewestAll j streams
      → (let number = C.record_refusal j (length out) (some (map packed streams)) in
      WritingDue j out (C.written_as j number (some (map packed streams))) (C.record_out j number (some (map packed streams)) out))
  unfolding C.record_refusal
  by_bounds streams few = go (all_short (map packed streams)) refl (leb (length (record_with j streams)) 1048576) refl
      (leb (length (record_with j streams)) (length out)) refl
    where
      go : (a : Bool) → all_short (map packed streams) ≡ a → (b : Bool) → leb (length (record_with j streams)) 1048576 ≡ b → (c : Bool)
          → leb (length (record_with j streams)) (length out) ≡ c
          → (let number = unless (a && b) 16 (unless c 11 0) in
          WritingDue j out (C.written_as j number (some (map packed streams))) (C.record_out j number (some (map packed streams)) out))
      go false e b f c g = due _ out (second refl (streams, few, inl (long_one streams e))) (λ s f e. absurd (omega arith))
      go true e false f c g =
          due _ out (second refl (streams, few, inr (leb-false (length (record_with j streams)) 1048576 f))) (λ s f e. absurd (omega arith))
      go true e true f false g =
          due _ out
          (third refl (streams, few, record { each_stream = short_each streams e; whole = leb-true (length (record_with j streams)) 1048576 f }, leb-false (length (record_with j streams)) (length out) g))
          (λ s f e. absurd (omega arith))
      go true e true f true g =
          due _ _
          (fourth refl (streams, few, record { each_stream = short_each streams e; whole = leb-true (length (record_with j streams)) 1048576 f }, leb-true (length (record_with j streams)) (length out) g))
          (λ s f e. rw (all_one f few) (refl, refl))

  by_found : (founds : List (Option (List ℕ))) → SearchFindsAll j.section2 j.order (cut j.counts j.samples) founds
      → (o : Option (List (List ℕ))) → packed_all founds ≡ o
      → WritingDue j out (C.written_as j (C.record_refusal j (length out) o) o) (C.record_out j (C.record_refusal j (length out) o) o out)
  unfolding C.record_refusal
  by_found founds F none e =
      due _ out (first refl (lead_none (missing j.section2 j.order F e))) (λ s f e. absurd (omega arith))
  by_found founds F (some ps) e = let f = all_found j.section2 j.order ps F e in rw f.bytes (by_bounds f.streams (all_fewest f))

pub writes : {j : Job} {work out : List ℕ} {a : Written} {w o : List ℕ} → JobFits j → C.job_refusal j (length work) ≡ 0 → RecordWriting j work out a w o
    → WritingDue j out a o
writes fits kept (C.refused n e) = absurd (omega (arith, sym kept ∙ e))
writes {j = j} {work = work} {out = out} fits kept (C.answered founds e F) =
    by_found j out fits (job_kept j (length work) e).2 founds F (packed_all founds) refl
