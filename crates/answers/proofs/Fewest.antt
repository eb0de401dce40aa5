-- The third demand: of all streams that are rebuilt to the samples, the writer's has the fewest bits. Assumes nothing.
use Prim.Native.Nat.{ℕ, ◌+◌, ◌*◌, ◌≤◌, ◌<◌}
use mathlib.Core.Path.{◌≡◌, refl, sym, ap, ◌∙◌}
use mathlib.Core.Bool.{Bool, true, false, cond}
use mathlib.Core.List.{List, [], ◌∷◌, ◌++◌, append-nil, append_assoc}
use mathlib.Core.Logic.{◌↔◌}
use mathlib.Core.Option.{Option, none, some}
use native.Mathlib.Omega.{arith}
use lib.Dec.{leb}
use borrow.Author.Tests.{leb-true, leb-false, le-leb}
use lib.IntN.{ℤ, pos}
use lib.ListN.{length, drop, length-append}
use lib.Seq.{take-append_seam}
use Rattle.wire.specs.RuleWords.{every, unless}
use Rattle.bits.proofs.Laws.{Small, small_take}
use Rattle.tables.specs.declared.Structure.{Structure}
use Rattle.tables.specs.Section2.{table_right}
use Rattle.reading.specs.Reading.{Next, gave, stuck, read_next}
use Rattle.samples.specs.Differences.{stored_of, sample_of, stored_from, differences}
use Rattle.samples.specs.Trace.{Trace, rebuilt, fault, fits16, behind, after_sample}
use Rattle.samples.proofs.Laws.{stored_sample}
use Rattle.traces.specs.Rebuilding.{after_next, most_left_over, rebuild_from, rebuild}
use Rattle.packing.specs.Packing.{bytes_for, packed}
use Rattle.paths.proofs.Compared.{compared_unique}
use Rattle.shortest.specs.Shortest.{ReadsTo, done, value, Stream, Shortest}
use Rattle.shortest.proofs.Laws.{bits_small, small_bits}
use Rattle.shortest.proofs.Cut.{next_cut}
use Rattle.encode.specs.declared.Coded.{Coded}
use Rattle.encode.specs.Encoding.{tables_given, asked_right, tables_given_right, work_right, asked_refusal, SearchFinds, found_refusal, coded_as, out_as, LeadEncoding, refused, answered}
use Rattle.wire.proofs.Laws.{kept_first, unlike}
use Rattle.trip.proofs.Traces.{left_few}
use Rattle.trip.proofs.Compose.{given_right}
use Rattle.answers.specs.Demands.{StreamFor, BeginsWithStream, FewestBits, EncodingDue}
use Rattle.answers.proofs.Cases.{Case, first, second, third, fourth, Apart, exactly}

-- ---- what is rebuilt to samples begins with a stream for their differences

record Begins (tables : List (List Structure)) (t : ℕ) (bs : List ℕ) (xs vs : List ℤ) : Type 0 where
  pub fit : every fits16 xs ≡ true
  pub stream : List ℕ
  pub rest : List ℕ
  pub whole : stream ++ rest ≡ bs
  pub reads : ReadsTo tables t stream vs
  pub few : length rest ≤ most_left_over

-- a trace behind a sample is a trace of samples where the whole is
record Behind (x y : ℤ) (xs : List ℤ) (t : Trace) : Type 0 where
  pub sample : y ≡ x
  pub fits : fits16 x ≡ true
  pub later : t ≡ rebuilt xs

behind_one : (y x : ℤ) (xs : List ℤ) (t : Trace) → after_sample (λ z. t) y ≡ rebuilt (x ∷ xs) → Behind x y xs t
unfolding after_sample
behind_one y x xs t h = go (fits16 y) refl t h
  where
    go : (b : Bool) → fits16 y ≡ b → (t : Trace) → cond b (behind y t) (fault 13) ≡ rebuilt (x ∷ xs) → Behind x y xs t
    go true f (rebuilt ys) e =
        let p : y ≡ x = cc in
        let q : ys ≡ xs = cc in
        record { sample = p; fits = rw (← p) f; later = ap rebuilt q }
    go true f (fault n) e = unlike cc
    go false f t e = unlike cc

module _ (n : ℕ) (tables : List (List Structure)) (right : every (table_right n) tables ≡ true) (order : ℕ) where
  begins : (xs : List ℤ) (place : ℕ) (last other : ℤ) (t : ℕ) (bs : List ℕ) → Small bs
      → rebuild_from tables order (length xs) place last other t bs ≡ rebuilt xs → Begins tables t bs xs (stored_from order place last other xs)
  unfolding rebuild_from stored_from after_sample every
  begins [] place last other t bs small h =
      record { fit = refl; stream = []; rest = bs; whole = refl; reads = done; few = few_left (leb (length bs) most_left_over) refl h }
    where
      few_left : (b : Bool) → leb (length bs) most_left_over ≡ b → cond b (rebuilt []) (fault 14) ≡ rebuilt [] → length bs ≤ most_left_over
      few_left true e g = leb-true (length bs) most_left_over e
      few_left false e g = unlike cc
  begins (x ∷ xs) place last other t bs small h = go (read_next tables t bs) refl h (begins xs (place + 1) x last)
    where
      go : (o : Next) → read_next tables t bs ≡ o → after_next
          (λ v next rest. after_sample (λ y. rebuild_from tables order (length xs) (place + 1) y last next rest) (sample_of order place v last other))
          o ≡ rebuilt (x ∷ xs)
          → ((next : ℕ) (rest : List ℕ) → Small rest → rebuild_from tables order (length xs) (place + 1) x last next rest ≡ rebuilt xs
          → Begins tables next rest xs (stored_from order (place + 1) x last xs))
          → Begins tables t bs (x ∷ xs) (stored_of order place x last other ∷ stored_from order (place + 1) x last xs)
      go stuck e g later = unlike cc
      go (gave v next rest) e g later =
          let y = sample_of order place v last other in
          let b = behind_one y x xs (rebuild_from tables order (length xs) (place + 1) y last next rest) g in
          let c = next_cut n tables right t bs v next rest small e in
          let f = later next rest c.small (rw b.sample at b.later) in
          let v_is : v ≡ stored_of order place x last other = rw (← b.sample) (sym (stored_sample order place v last other)) in
          record {
            fit = rw (b.fits, f.fit);
            stream = c.word ++ f.stream;
            rest = f.rest;
            whole = append_assoc c.word f.stream f.rest ∙ rw f.whole c.whole;
            reads = rw (← v_is) (value (c.again f.stream) f.reads);
            few = f.few;
          }

  -- ---- the shortest stream for the differences has the fewest bits for the samples

  -- a stream for the differences is rebuilt to the samples
  rebuilds : (xs : List ℤ) (bs : List ℕ) → every fits16 xs ≡ true → Stream tables (differences order xs) bs → StreamFor tables order xs bs
  rebuilds xs bs fit s = record {
    bits = s.bits;
    reads = ap (rebuild tables order (length xs)) (sym (append-nil bs)) ∙ left_few n tables right order xs bs fit s [] (omega arith);
  }

  -- and what is rebuilt to the samples begins with such a stream, with no more behind it than may be left over
  pub inside : (xs : List ℤ) (bs : List ℕ) → StreamFor tables order xs bs → BeginsWithStream most_left_over tables order xs bs
  unfolding rebuild differences
  inside xs bs s =
      let small = bits_small bs s.bits in
      let b = begins xs 0 (pos 0) (pos 0) 1 bs small s.reads in
      let own = small_take (length b.stream) (b.stream ++ b.rest) (rw (← b.whole) at small) in
      record {
        bits = s.bits;
        stream = b.stream;
        rest = b.rest;
        whole = b.whole;
        reads = record { bits = small_bits b.stream (rw (take-append_seam b.stream b.rest) at own); reads = b.reads };
        few = b.few;
      }

  -- and they have 16 bits each
  pub samples_fit : (xs : List ℤ) (bs : List ℕ) → StreamFor tables order xs bs → every fits16 xs ≡ true
  unfolding rebuild
  samples_fit xs bs s = (begins xs 0 (pos 0) (pos 0) 1 bs (bits_small bs s.bits) s.reads).fit

  -- the one is so exactly if the other is
  pub undone : (xs : List ℤ) (bs : List ℕ) → every fits16 xs ≡ true → StreamFor tables order xs bs ↔ BeginsWithStream most_left_over tables order xs bs
  undone xs bs fit = (
    inside xs bs,
    λ b. record { bits = b.bits; reads = rw (← b.whole) (left_few n tables right order xs b.stream fit b.reads b.rest b.few) },
  )

  -- where bits that are rebuilt to the samples are no more than a shortest stream has, they are a stream, with nothing behind it
  whole_stream : (xs : List ℤ) (bs other : List ℕ) → Shortest tables (differences order xs) bs → (o : BeginsWithStream most_left_over tables order xs other)
      → length other ≡ length bs → Stream tables (differences order xs) other
  whole_stream xs bs other s o e = go o.rest o.whole (length-append o.stream o.rest)
    where
      go : (rest : List ℕ) → o.stream ++ rest ≡ other → length (o.stream ++ rest) ≡ length o.stream + length rest
          → Stream tables (differences order xs) other
      go [] h l = rw (← h, append-nil o.stream) o.reads
      go (b ∷ rest) h l = absurd (omega (arith, s.fewest o.stream o.reads, l, ap length h, e))

  pub fewest : (xs : List ℤ) (bs : List ℕ) → every fits16 xs ≡ true → Shortest tables (differences order xs) bs → FewestBits tables order xs bs
  fewest xs bs fit s = record {
    stream = rebuilds xs bs fit s.stream;
    fewest = λ other o.
        let i = inside xs other o in
        omega (arith, s.fewest i.stream i.reads, length-append i.stream i.rest, ap length i.whole);
    smaller = λ other o e. s.smaller other (whole_stream xs bs other s (inside xs other o) e) e;
  }

  -- no two have the fewest bits
  pub fewest_one : {xs : List ℤ} {bs cs : List ℕ} → FewestBits tables order xs bs → FewestBits tables order xs cs → bs ≡ cs
  fewest_one {bs = bs} {cs = cs} f g =
      compared_unique bs cs (f.fewest cs g.stream) (g.fewest bs f.stream) (f.smaller cs g.stream) (g.smaller bs f.stream)

  -- ---- what encoding answers, once a stream is looked for

  -- the four that exclude each other: no stream; too long; no room; in bounds and with room
  abbrev Without : List ℤ → Type 0
  Without xs = (bs : List ℕ) → StreamFor tables order xs bs → ⊥

  abbrev Long : List ℤ → Type 0
  Long xs = (bs : List ℕ) × FewestBits tables order xs bs × (65535 < bytes_for (length bs))

  abbrev Short : List ℤ → List ℕ → Type 0
  Short xs out = (bs : List ℕ) × FewestBits tables order xs bs × (bytes_for (length bs) ≤ 65535) × (length out < bytes_for (length bs))

  abbrev Fits : List ℤ → List ℕ → Type 0
  Fits xs out = (bs : List ℕ) × FewestBits tables order xs bs × (bytes_for (length bs) ≤ 65535) × (bytes_for (length bs) ≤ length out)

  exclude : (xs : List ℤ) (out : List ℕ) → Apart (Without xs) (Long xs) (Short xs out) (Fits xs out)
  exclude xs out = record {
    first_second = λ p q. p q.0 q.1.stream;
    first_third = λ p q. p q.0 q.1.stream;
    first_fourth = λ p q. p q.0 q.1.stream;
    second_third = λ p q. let e = ap length (fewest_one p.1 q.1) in omega (arith, p.2, q.2, ap bytes_for e);
    second_fourth = λ p q. let e = ap length (fewest_one p.1 q.1) in omega (arith, p.2, q.2, ap bytes_for e);
    third_fourth = λ p q. let e = ap length (fewest_one p.1 q.1) in omega (arith, p.3, q.3, ap bytes_for e);
  }

  due : (xs : List ℤ) (out : List ℕ) (a : Coded) (o : List ℕ) → Case a.refusal (Without xs) (Long xs) (Short xs out) (Fits xs out)
      → ((bs : List ℕ) → FewestBits tables order xs bs → a.refusal ≡ 0
      → (a ≡ record { refusal = 0; bytes = bytes_for (length bs); bits = length bs }) × (o ≡ packed bs ++ drop (bytes_for (length bs)) out))
      → EncodingDue tables order xs out a o
  due xs out a o c shown =
      let d = exactly a.refusal c (exclude xs out) in
      record { no_code = d.0; too_long = d.1; no_room = d.2; coded = d.3; answered = shown }

  encodes : (xs : List ℤ) (out : List ℕ) → every fits16 xs ≡ true → (found : Option (List ℕ)) → SearchFinds tables (differences order xs) found
      → EncodingDue tables order xs out (coded_as (found_refusal (length out) found) found) (out_as (found_refusal (length out) found) found out)
  unfolding found_refusal
  encodes xs out fit none nothing =
      due xs out _ out (first refl (λ bs s. let i = inside xs bs s in nothing i.stream i.reads)) (λ bs f e. absurd (omega arith))
  encodes xs out fit (some bs) s = go (leb (bytes_for (length bs)) 65535) refl (leb (bytes_for (length bs)) (length out)) refl
    where
      own : FewestBits tables order xs bs
      own = fewest xs bs fit s

      go : (within : Bool) → leb (bytes_for (length bs)) 65535 ≡ within → (room : Bool) → leb (bytes_for (length bs)) (length out) ≡ room
          → EncodingDue tables order xs out (coded_as (unless within 16 (unless room 11 0)) (some bs)) (out_as (unless within 16 (unless room 11 0)) (some bs) out)
      go false e room f = due xs out _ out (second refl (bs, own, leb-false (bytes_for (length bs)) 65535 e)) (λ cs f e. absurd (omega arith))
      go true e false f =
          due xs out _ out (third refl (bs, own, leb-true (bytes_for (length bs)) 65535 e, leb-false (bytes_for (length bs)) (length out) f))
          (λ cs f e. absurd (omega arith))
      go true e true f =
          due xs out _ _ (fourth refl (bs, own, leb-true (bytes_for (length bs)) 65535 e, leb-true (bytes_for (length bs)) (length out) f))
          (λ cs f e. rw (fewest_one f own) (refl, refl))

-- ---- encoding a lead

-- what is asked right is not refused before a stream is looked for
pub asked : (s2 : List ℕ) (count order work : ℕ) → tables_given_right s2 ≡ true → 1 ≤ count → count ≤ 65536 → order ≤ 2
    → count * length (tables_given s2) ≤ work → asked_refusal s2 count order work ≡ 0
unfolding asked_refusal asked_right work_right
asked s2 count order work right least most two room =
    rw (le-leb 1 count least, le-leb count 65536 most, le-leb order 2 two, right, le-leb (count * length (tables_given s2)) work room)

pub encoding : {s2 : List ℕ} {xs : List ℤ} {order : ℕ} {work out : List ℕ} {a : Coded} {w o : List ℕ} → tables_given_right s2 ≡ true
    → asked_refusal s2 (length xs) order (length work) ≡ 0 → every fits16 xs ≡ true → LeadEncoding s2 xs order work out a w o
    → EncodingDue (tables_given s2) order xs out a o
encoding right kept fit (refused n e) = absurd (omega (arith, sym kept ∙ e))
encoding {s2 = s2} {xs = xs} {order = order} {out = out} right kept fit (answered found e F) =
    let g = given_right s2 right in
    encodes (length (tables_given s2)) (tables_given s2) g order xs out fit found F

-- what is not refused before a stream is looked for has tables that are right
pub given_kept : (s2 : List ℕ) (count order work : ℕ) → asked_refusal s2 count order work ≡ 0 → tables_given_right s2 ≡ true
unfolding asked_refusal
given_kept s2 count order work e =
    let from11 = unless (work_right s2 count work) 11 0 in
    (kept_first (tables_given_right s2) 6 from11 (kept_first (asked_right count order) 16 (unless (tables_given_right s2) 7 from11) e).1).0
