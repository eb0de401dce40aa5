-- The relation of the search reads what the reading rule reads, for right tables; so the best stream is the shortest. Assumes nothing.
use Prim.Native.Nat.{ℕ, zero, suc, ◌+◌, ◌^◌, ◌≤◌, ◌<◌}
use mathlib.Core.Path.{◌≡◌, refl, sym, ap, ◌∙◌}
use mathlib.Core.Bool.{Bool, true, false, cond}
use mathlib.Core.List.{List, [], ◌∷◌, ◌++◌, append-nil, append_assoc}
use mathlib.Core.Option.{Option, none, some}
use native.Mathlib.Decide.{ℕ_discrete}
use native.Mathlib.Omega.{arith}
use borrow.Author.Tests.{ltb-true, lt-ltb, leb-true}
use lib.Dec.{leb}
use lib.IntN.{ℤ}
use lib.ListN.{length, take, drop, length-append, take-append-drop}
use lib.Seq.{length-take-le}
use lib.Signed.{mag}
use Rattle.wire.proofs.Laws.{unlike}
use Rattle.wire.specs.RuleWords.{every}
use Rattle.bits.specs.Bits.{high_first, number_of, signed}
use Rattle.bits.proofs.Laws.{Small, length_high_first, length_low_first, small_append, small_behind, small_take}
use Rattle.bits.proofs.Laws.{small_drop, small_high_first, small_low_first, number_small, own_bits}
use Rattle.tables.specs.declared.Structure.{Structure}
use Rattle.tables.specs.Structures.{prefix_of, remainder_of}
use Rattle.tables.specs.Section2.{table_of, table_right}
use Rattle.tables.proofs.Laws.{Fine, fine}
use Rattle.reading.specs.Reading.{gave, stuck, matching, value_of, read_coded, read_next}
use Rattle.reading.proofs.Laws.{structure_there, matched, falls, read_switch, read_value}
use Rattle.reading.proofs.Laws.{read_none, next_coded, gave_value, gave_table, gave_rest}
use Rattle.reading.proofs.Trip.{trip_switch, trip_base, trip_rest}
use Rattle.paths.specs.InnerPaths.{There, Sound, Reads, done, value, switch, Best, Exact, gives, leads}
use Rattle.paths.proofs.Optimal.{exact_none}
use Rattle.paths.proofs.Compared.{compared_unique}
use Rattle.shortest.specs.Shortest as S
use Rattle.shortest.specs.Shortest.{are_bits, ReadsTo, Stream, Shortest, NoStream}
use Rattle.shortest.specs.InnerRule.{twos, holds, serves, kind_of, word_of, structure_of, rule}
use Rattle.shortest.proofs.Laws.{twos_small, signed_twos, twos_signed, equal_true, equal_self, bits_small}
use Rattle.shortest.proofs.Laws.{small_bits, kind_switch, kind_value, leads_switch, gives_value}

-- ---- the promise

-- there is one shortest stream at most
pub unique : (tables : List (List Structure)) (vs : List ℤ) (a b : List ℕ) → Shortest tables vs a → Shortest tables vs b → a ≡ b
unique tables vs a b x y =
    compared_unique a b (x.fewest b y.stream) (y.fewest a x.stream) (x.smaller b y.stream) (y.smaller a x.stream)

-- ---- words

-- a word's bits are 0 or 1
small_word : (c : Structure) (v : ℤ) → Small (word_of c v)
unfolding word_of
small_word c v =
    let r = remainder_of c in
    small_append (prefix_of c) (high_first r (twos r v)) (small_low_first c.prefix c.code) (small_high_first r (twos r v))

no_bits : (n : ℕ) → high_first 0 n ≡ []
unfolding high_first
no_bits n = refl

-- without a remainder the word is the prefix
word_prefix : (c : Structure) (v : ℤ) → remainder_of c ≡ 0 → word_of c v ≡ prefix_of c
unfolding word_of
word_prefix c v e = rw (e, no_bits (twos 0 v)) (append-nil (prefix_of c))

pub length_word : (c : Structure) (v : ℤ) → length (word_of c v) ≡ c.prefix + remainder_of c
unfolding word_of
length_word c v = simp (length-append, length_low_first, length_high_first)

-- the structures of the table
module _ (n : ℕ) (tables : List (List Structure)) (right : every (table_right n) tables ≡ true) (t k : ℕ)
    (hk : k < length (table_of tables t)) where
  -- a structure of a right table is right
  pub structure_fine : Fine n (structure_of tables t k)
  structure_fine = fine n (structure_of tables t k) (structure_there n tables right t k hk)

  -- a value's word gives the value
  read_word : (v : ℤ) (bs : List ℕ) → kind_of (structure_of tables t k) v ≡ gives
      → read_coded tables t (word_of (structure_of tables t k) v ++ bs) ≡ gave v t bs
  unfolding serves holds word_of
  read_word v bs e =
      let c = structure_of tables t k in
      let g = gives_value c v e in
      go c refl g.0 (remainder_of c) refl g.1
    where
      go : (c : Structure) → structure_of tables t k ≡ c → (c.mode ≡ 0 → ⊥) → (r : ℕ) → remainder_of c ≡ r → serves r c.base v ≡ true
          → read_coded tables t (word_of c v ++ bs) ≡ gave v t bs
      go c stands m zero er s =
          rw (word_prefix c v er) (trip_base n tables right t k c hk stands bs m er)
          ∙ ap (λ (x : ℤ). gave x t bs) (equal_true (signed 16 c.base) v s)
      go c stands m (suc w) er s =
          let r = suc w in
          rw (er, append_assoc (prefix_of c) (high_first r (twos r v)) bs)
          (trip_rest n tables right t k c hk stands bs m r (twos r v) er (omega arith) (twos_small r v)
          ∙ ap (λ (x : ℤ). gave x t bs) (signed_twos w v (ltb-true (mag v) (2 ^ w) s)))

  -- a switch's word carries on where it leads
  read_leap : (v : ℤ) (u : ℕ) (bs : List ℕ) → kind_of (structure_of tables t k) v ≡ leads u
      → read_coded tables t (word_of (structure_of tables t k) v ++ bs) ≡ read_coded tables u bs
  read_leap v u bs e =
      let c = structure_of tables t k in
      let s = leads_switch c v u e in
      let r : remainder_of c ≡ 0 = omega (arith, structure_fine.switch s.0) in
      rw (word_prefix c v r) (trip_switch n tables right t k c hk refl bs s.0) ∙ ap (λ (x : ℕ). read_coded tables x bs) s.1

-- ---- what the rule reads, the relation reads

-- a value that was read has a code, and its bits behind the prefix are those that were read
record ReadValue (r base t : ℕ) (bs : List ℕ) (v : ℤ) (next : ℕ) (rest : List ℕ) : Type 0 where
  pub table : t ≡ next
  pub serve : serves r base v ≡ true
  pub bits : bs ≡ high_first r (twos r v) ++ rest

read_value_bits : (r base t : ℕ) (bs : List ℕ) (v : ℤ) (next : ℕ) (rest : List ℕ) → Small bs → value_of r base t bs ≡ gave v next rest
    → ReadValue r base t bs v next rest
unfolding value_of serves holds
read_value_bits zero base t bs v next rest small h = record {
  table = gave_table h;
  serve = rw (gave_value h) (equal_self v);
  bits = rw (no_bits (twos 0 v)) (gave_rest h);
}
read_value_bits (suc w) base t bs v next rest small h = go (leb r (length bs)) refl h
  where
    r : ℕ
    r = suc w

    go : (b : Bool) → leb r (length bs) ≡ b → cond b (gave (signed r (number_of (take r bs))) t (drop r bs)) stuck ≡ gave v next rest
        → ReadValue r base t bs v next rest
    go true e g =
        let l = take r bs in
        let x = number_of l in
        let sl = small_take r bs small in
        let ll : length l ≡ r = length-take-le r bs (leb-true r (length bs) e) in
        let sx : x < 2 ^ r = rw ll at (number_small l sl) in
        let own = twos_signed w x sx in
        record {
          table = gave_table g;
          serve = rw (← gave_value g) (lt-ltb (mag (signed r x)) (2 ^ w) own.1);
          bits = rw (← gave_value g, ← gave_rest g, own.0, own_bits l r sl ll) (sym (take-append-drop r bs));
        }
    go false e g = unlike cc

module _ (n : ℕ) (tables : List (List Structure)) (right : every (table_right n) tables ≡ true) where
  -- a value was read by a word, which any bits may follow, and any stream from there on
  pub record Behind (t : ℕ) (bs : List ℕ) (v : ℤ) (next : ℕ) (rest : List ℕ) : Type 0 where
    pub small : Small rest
    pub word : List ℕ
    pub whole : word ++ rest ≡ bs
    pub again : (more : List ℕ) → read_coded tables t (word ++ more) ≡ gave v next more
    pub onto : (more : List ℕ) (vs : List ℤ) → Reads (rule tables) next more vs → Reads (rule tables) t (word ++ more) (v ∷ vs)

  -- a value's structure was matched
  behind_value_lem : (t k : ℕ) (bs : List ℕ) (v : ℤ) (next : ℕ) (rest : List ℕ) → k < length (table_of tables t) → Small bs
      → ((structure_of tables t k).mode ≡ 0 → ⊥) → bs ≡ prefix_of (structure_of tables t k) ++ drop (structure_of tables t k).prefix bs
      → value_of (remainder_of (structure_of tables t k)) (structure_of tables t k).base t (drop (structure_of tables t k).prefix bs)
      ≡ gave v next rest → Behind t bs v next rest
  unfolding word_of
  behind_value_lem t k bs v next rest hk small m parts h =
      let c = structure_of tables t k in
      let r = remainder_of c in
      let sd = small_drop c.prefix bs small in
      let g = read_value_bits r c.base t (drop c.prefix bs) v next rest sd h in
      let whole : word_of c v ++ rest ≡ bs =
      append_assoc (prefix_of c) (high_first r (twos r v)) rest ∙ ap (λ (l : List ℕ). prefix_of c ++ l) (sym g.bits) ∙ sym parts in
      let kind = kind_value c v m g.serve in
      record {
        small = small_behind (high_first r (twos r v)) rest (rw g.bits at sd);
        word = word_of c v;
        whole = whole;
        again = λ more. rw (← g.table) (read_word n tables right t k hk v more kind);
        onto = λ more vs s. value k hk kind (rw (← g.table) at s);
      }

  -- values are read so from fewer bits than f
  abbrev pub Shorter : ℕ → Type 0
  Shorter f = (t : ℕ) (bs : List ℕ) (v : ℤ) (next : ℕ) (rest : List ℕ) → length bs < f → Small bs → read_coded tables t bs ≡ gave v next rest
      → Behind t bs v next rest

  behind_step : (f : ℕ) → Shorter f → Shorter (suc f)
  behind_step f shorter t bs v next rest l small h = found (matching (table_of tables t) bs) refl
    where
      at : (k : ℕ) → k < length (table_of tables t) → matching (table_of tables t) bs ≡ some (structure_of tables t k)
          → Dec ((structure_of tables t k).mode ≡ 0) → Behind t bs v next rest
      at k hk e (yes m) =
          let c = structure_of tables t k in
          let p = c.prefix in
          let parts = (matched (table_of tables t) bs c e).split in
          let b = shorter c.base (drop p bs) v next rest (omega (arith, falls n tables right t bs c e)) (small_drop p bs small)
          (sym (read_switch n tables right t bs c e m) ∙ h) in
          let word = word_prefix c v (omega (arith, (structure_fine n tables right t k hk).switch m)) in
          let kind = kind_switch c v m in
          record {
            small = b.small;
            word = word_of c v ++ b.word;
            whole = append_assoc (word_of c v) b.word rest ∙ rw (b.whole, word) (sym parts);
            again = λ more.
                rw (append_assoc (word_of c v) b.word more) (read_leap n tables right t k hk v c.base (b.word ++ more) kind ∙ b.again more);
            onto = λ more vs s. rw (append_assoc (word_of c v) b.word more) (switch k c.base hk kind (b.onto more vs s));
          }
      at k hk e (no m) =
          let c = structure_of tables t k in
          behind_value_lem t k bs v next rest hk small m (matched (table_of tables t) bs c e).split
          (sym (read_value n tables right t bs c e m) ∙ h)

      found : (c : Option Structure) → matching (table_of tables t) bs ≡ c → Behind t bs v next rest
      found none e = let q = sym (read_none n tables right t bs e) ∙ h in unlike cc
      found (some c) e =
          let w = matched (table_of tables t) bs c e in
          at w.place w.there (rw w.stands e) (ℕ_discrete (structure_of tables t w.place).mode 0)

  pub behind_within : (f : ℕ) → Shorter f
  behind_within zero t bs v next rest l small h = absurd (omega arith)
  behind_within (suc f) t bs v next rest l small h = behind_step f (behind_within f) t bs v next rest l small h

-- ---- right tables, one at least

module _ (tables : List (List Structure)) (right : every (table_right (length tables)) tables ≡ true) (there : 1 ≤ length tables) where
  -- what the search asks of tables
  pub sound : Sound (rule tables)
  sound = record {
    onto = λ t k u v ht hk e.
        let s = leads_switch (structure_of tables t k) v u e in
        omega (arith, (structure_fine (length tables) tables right t k hk).switch s.0, s.1);
    some = λ t k v ht hk.
        rw (length_word (structure_of tables t k) v) (omega (arith, (structure_fine (length tables) tables right t k hk).some));
  }

  pub reads_small : {t : ℕ} {bs : List ℕ} {vs : List ℤ} → Reads (rule tables) t bs vs → Small bs
  reads_small done = λ i. omega arith
  reads_small (value {t = t} k {v = v} {s = bs} hk e r) =
      small_append (word_of (structure_of tables t k) v) bs (small_word (structure_of tables t k) v) (reads_small r)
  reads_small (switch {t = t} k u {v = v} {s = bs} hk e r) =
      small_append (word_of (structure_of tables t k) v) bs (small_word (structure_of tables t k) v) (reads_small r)

  -- where a switch's word is read on from
  carried : {t u : ℕ} {bs rest : List ℕ} {v : ℤ} {vs : List ℤ} → read_next tables t bs ≡ read_next tables u rest
      → ReadsTo tables u rest (v ∷ vs) → ReadsTo tables t bs (v ∷ vs)
  carried e (S.value h r) = S.value (e ∙ h) r

  pub reads_to : {t : ℕ} {bs : List ℕ} {vs : List ℤ} → Reads (rule tables) t bs vs → ReadsTo tables t bs vs
  reads_to done = S.done
  reads_to (value {t = t} k {v = v} {s = bs} hk e r) =
      S.value (next_coded tables there t (word_of (structure_of tables t k) v ++ bs)
      ∙ read_word (length tables) tables right t k hk v bs e) (reads_to r)
  reads_to (switch {t = t} k u {v = v} {s = bs} hk e r) =
      carried (next_coded tables there t (word_of (structure_of tables t k) v ++ bs)
      ∙ read_leap (length tables) tables right t k hk v u bs e ∙ sym (next_coded tables there u bs)) (reads_to r)

  to_reads_small : {t : ℕ} {bs : List ℕ} {vs : List ℤ} → Small bs → ReadsTo tables t bs vs → Reads (rule tables) t bs vs
  to_reads_small small S.done = done
  to_reads_small small (S.value {table = t} {next = next} {bs = bs} {rest = rest} {v = v} {vs = vs} h r) =
      let e = sym (next_coded tables there t bs) ∙ h in
      let b = behind_within (length tables) tables right (suc (length bs)) t bs v next rest (omega arith) small e in
      rw (← b.whole) (b.onto rest vs (to_reads_small b.small r))

  pub to_reads : {t : ℕ} {bs : List ℕ} {vs : List ℤ} → ReadsTo tables t bs vs → are_bits bs ≡ true → Reads (rule tables) t bs vs
  to_reads {bs = bs} r bits = to_reads_small (bits_small bs bits) r

  -- streams, both ways
  pub stream_of_lem : {bs : List ℕ} {vs : List ℤ} → Reads (rule tables) 1 bs vs → Stream tables vs bs
  stream_of_lem {bs = bs} r = record { bits = small_bits bs (reads_small r); reads = reads_to r }

  pub reads_of : {bs : List ℕ} {vs : List ℤ} → Stream tables vs bs → Reads (rule tables) 1 bs vs
  reads_of s = to_reads s.reads s.bits

  -- the best stream is the shortest
  pub shortest_of : {bs : List ℕ} {vs : List ℤ} → Best (rule tables) 1 vs bs → Shortest tables vs bs
  shortest_of b = record {
    stream = stream_of_lem b.reads;
    fewest = λ other s. b.fewest other (reads_of s);
    smaller = λ other s. b.smaller other (reads_of s);
  }

  -- where the relation has no stream there is none
  pub none_of : {vs : List ℤ} → ((bs : List ℕ) → Reads (rule tables) 1 bs vs → ⊥) → NoStream tables vs
  none_of never bs s = never bs (reads_of s)

  -- what exact costs say of the promise: the shortest stream, streams but none below the cap, or no stream
  module _ (cap : ℕ) (vs : List ℤ) (c : ℕ → ℕ) (E : Exact (rule tables) cap vs c) where
    first : There (rule tables) 1
    first = (omega arith, there)

    pub exact_shortest : c 1 < cap → (bs : List ℕ) × Shortest tables vs bs × (length bs ≡ c 1)
    exact_shortest h = let b = E.best 1 first h in (b.0, shortest_of b.1, b.2)

    pub exact_long : c 1 ≡ cap → ((bs : List ℕ) × Stream tables vs bs) × ((bs : List ℕ) → Stream tables vs bs → cap ≤ length bs)
    exact_long h =
        let m = E.met 1 first (omega arith) in
        ((m.0, stream_of_lem m.1), λ bs s. omega (arith, E.low 1 bs first (reads_of s)))

    pub exact_nothing : cap < c 1 → NoStream tables vs
    exact_nothing h = none_of (λ bs r. exact_none (rule tables) cap vs c E 1 first h bs r)
