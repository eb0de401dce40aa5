-- The walk: what is written and what is left are the shortest stream. Assumes nothing.
use Prim.Native.Nat.{ℕ, ◌+◌, ◌-◌, ◌*◌, ◌≤◌, ◌<◌}
use mathlib.Core.Path.{◌≡◌, refl, sym, ap, ◌∙◌, subst}
use mathlib.Core.Bool.{true}
use mathlib.Core.List.{List, [], ◌∷◌, ◌++◌, append_assoc, append-nil}
use native.Mathlib.Decide.{dec_lt}
use native.Mathlib.Nat.{suc-mul, mul-le-mul_right}
use native.Mathlib.Numerals.{add-one}
use native.Mathlib.Omega.{arith}
use lib.IntN.{ℤ, pos}
use lib.ListN.{length, get_or, take, drop, length-append, drop_of_length-le}
use lib.Seq.{drop-cons}
use Rattle.bits.specs.Bits.{high_first, bits_in}
use Rattle.bits.specs.InnerRaised.{from_zero}
use Rattle.bits.specs.InnerWindow.{turned}
use Rattle.bits.proofs.Laws.{length_low_first, length_high_first, small_low_first, own_bits}
use Rattle.tables.specs.declared.Structure.{Structure}
use Rattle.tables.specs.Structures.{structure_right, prefix_of, remainder_of}
use Rattle.compiled.specs.declared.Form.{Form}
use Rattle.compiled.specs.InnerForm.{form_of, Compiled}
use Rattle.compiled.proofs.Laws.{FineForm}
use Rattle.reading.proofs.Laws.{to_value}
use Rattle.packing.specs.declared.Sink.{Sink}
use Rattle.packing.specs.Packing.{packed, bytes_for}
use Rattle.packing.specs.InnerSink.{Holds, bits_put}
use Rattle.packing.proofs.Laws.{length_packed}
use Rattle.packing.proofs.Sinks.{holds_length, rest_later}
use Rattle.paths.specs.InnerPaths.{Kind, dead, gives, leads, There, Best, Alive, Hop}
use Rattle.paths.proofs.Optimal.{best_unique, nothing_left}
use Rattle.shortest.specs.Shortest.{Shortest}
use Rattle.shortest.specs.InnerRule.{twos, kind_of, word_of, structure_of, rule}
use Rattle.shortest.proofs.Laws.{kind_switch, leads_switch}
use Rattle.shortest.proofs.Forms.{form_leads}
use Rattle.shortest.proofs.Bridge.{sound, shortest_of, unique}
use Rattle.search.specs.InnerSearch.{CompiledCount, cap, Trail, Planned, count_of, form_in}
use Rattle.search.proofs.Laws.{counted, count_most, form_there, right_there, small_there, fine_there}
use Rattle.encode.specs.InnerEncode.{code_of, PartWritten, PartWrittenBy}

-- ---- a code put behind what was written

length_code : (f : Form) (v : ℤ) → length (code_of f v) ≡ f.prefix + f.remainder
length_code f v = simp (length-append, length_high_first)

-- it is the structure's word
form_code : (c : Structure) (v : ℤ) (f : Form) → form_of c ≡ f → word_of c v ≡ code_of f v
unfolding form_of word_of turned
form_code c v f form =
    let own = own_bits (prefix_of c) c.prefix (small_low_first c.prefix c.code) (length_low_first c.prefix c.code) in
    rw (← form) (ap (λ (p : List ℕ). p ++ high_first (remainder_of c) (twos (remainder_of c) v)) (sym own))

-- without a remainder it is the prefix
pub code_prefix : (f : Form) (v : ℤ) → f.remainder ≡ 0 → code_of f v ≡ high_first f.prefix f.word
unfolding high_first
code_prefix f v e = rw e (append-nil (high_first f.prefix f.word))

-- a sink holds some bits
pub holds_some : (out : List ℕ) (s : Sink) → s.at ≤ length out → Holds out s (bits_in (take s.at out) ++ high_first s.part s.acc)
holds_some out s at = record { bits = refl; at = at }

-- the bytes behind a sink's place stay as they were, though more is put
pub rest_on : (out₀ out out' : List ℕ) (s r : Sink) (w c : List ℕ) → Holds out s w → Holds out' r (w ++ c)
    → drop s.at out ≡ drop s.at out₀ → drop r.at out' ≡ drop r.at out → drop r.at out' ≡ drop r.at out₀
rest_on out₀ out out' s r w c h g before here =
    let later : s.at ≤ r.at =
    omega (arith, holds_length out s w h, holds_length out' r (w ++ c) g, length-append w c, s.open_byte, r.open_byte) in
    here ∙ rest_later s.at r.at out out₀ later before

-- ---- one set of tables

on_start : {tables : List (List Structure)} {tab : List ℕ} (ready : Compiled tables tab) (vs : List ℤ) (work : List ℕ) (total : ℕ)
    (out : List ℕ) (sink : Sink) → Planned tables vs work total → total < cap → Holds out sink [] → PartWritten tables vs total out sink 0 1 total
on_start {tables} ready vs work total out sink plan few holds =
    let first : There (rule tables) 1 = (omega arith, ready.some) in
    let b = plan.exact.best 1 first (omega (arith, plan.total)) in
    record {
      table = first;
      s = b.0;
      best = b.1;
      rest = b.2 ∙ plan.total;
      w = [];
      holds = holds;
      sum = omega arith;
      all = λ z h. unique tables vs z b.0 h (shortest_of tables ready.right ready.some b.1);
    }

-- a structure that is no switch and has a code gives the value
alive_gives : (c : Structure) (v : ℤ) → (c.mode ≡ 0 → ⊥) → Alive (kind_of c v) → kind_of c v ≡ gives
alive_gives c v m a = go (kind_of c v) refl a
  where
    go : (d : Kind) → kind_of c v ≡ d → Alive d → d ≡ gives
    go dead e b = absurd b
    go gives e b = refl
    go (leads u) e b = absurd (m (leads_switch c v u e).0)

module _ {tables : List (List Structure)} {tab : List ℕ} (ready : Compiled tables tab) (vs : List ℤ) (work : List ℕ) (n total : ℕ)
    (many : length tables ≡ n) (way : Trail tables vs work 0) (few : total < cap) (out : List ℕ) (sink : Sink) (i t left : ℕ)
    (O : PartWritten tables vs total out sink i t left) (more : 0 < left) where
  -- a sample is left
  inside : i < length vs
  inside = go (dec_lt i (length vs))
    where
      go : Dec (i < length vs) → i < length vs
      go (yes h) = h
      go (no h) =
          let z : [] ≡ O.s = nothing_left (rule tables) (rw (drop_of_length-le vs {i = i} (omega arith)) at O.best.reads) in
          absurd (omega (arith, ap length z, O.rest))

  first : Best (rule tables) t (get_or vs i (pos 0) ∷ drop (i + 1) vs) O.s
  first = rw (add-one i) (rw (drop-cons vs i (pos 0) inside) at O.best)

  -- the structure in the work space is the next step
  hop : Hop (rule tables) (get_or vs i (pos 0)) (drop (i + 1) vs) t (get_or work (i * n + (t - 1)) 0)
  hop =
      subst (λ (m : ℕ). Hop (rule tables) (get_or vs i (pos 0)) (drop (i + 1) vs) t (get_or work (i * m + (t - 1)) 0)) many
      (way i t (omega arith) inside O.table O.s first (omega (arith, O.rest, O.sum)))

  range : (1 ≤ t) × (t ≤ 8)
  range = omega (arith, O.table, ready.most)

  within : get_or work (i * n + (t - 1)) 0 < count_of tab t
  within = rw (counted ready t range) hop.inside

  place_most : get_or work (i * n + (t - 1)) 0 < 64
  place_most = omega (arith, within, count_most ready t range)

  -- its form
  module _ (f : Form) (e : f ≡ form_in tab t (get_or work (i * n + (t - 1)) 0)) where
    fine_next : FineForm f
    fine_next = rw e (fine_there ready t range (get_or work (i * n + (t - 1)) 0) within)

    form : form_of (structure_of tables t (get_or work (i * n + (t - 1)) 0)) ≡ f
    form = form_there ready t range (get_or work (i * n + (t - 1)) 0) within ∙ sym e

    right : structure_right 8 (structure_of tables t (get_or work (i * n + (t - 1)) 0)) ≡ true
    right = right_there ready t range (get_or work (i * n + (t - 1)) 0) within

    small : (structure_of tables t (get_or work (i * n + (t - 1)) 0)).base < 65536
    small = small_there ready t range (get_or work (i * n + (t - 1)) 0) within

    is : O.s ≡ code_of f (get_or vs i (pos 0)) ++ hop.rest
    is =
        let c = structure_of tables t (get_or work (i * n + (t - 1)) 0) in
        let v = get_or vs i (pos 0) in
        best_unique (rule tables) t (v ∷ drop (i + 1) vs) O.s (word_of c v ++ hop.rest) first hop.whole
        ∙ ap (λ (l : List ℕ). l ++ hop.rest) (form_code c v f form)

    code_length : f.prefix + f.remainder + length hop.rest ≡ left
    code_length = omega (arith, ap length is, length-append (code_of f (get_or vs i (pos 0))) hop.rest, length_code f (get_or vs i (pos 0)), O.rest)

    code_most : f.prefix + f.remainder ≤ left
    code_most = omega (arith, code_length)

    -- its code is put
    module _ (out' : List ℕ) (sink' : Sink) (put : Holds out' sink' (O.w ++ code_of f (get_or vs i (pos 0)))) where
      onward : (i' t' : ℕ) → There (rule tables) t' → Best (rule tables) t' (drop i' vs) hop.rest
          → PartWritten tables vs total out' sink' i' t' (left - (f.prefix + f.remainder))
      onward i' t' there best = record {
        table = there;
        s = hop.rest;
        best = best;
        rest = omega (arith, code_length);
        w = O.w ++ code_of f (get_or vs i (pos 0));
        holds = put;
        sum = omega (arith, code_length, O.sum, length-append O.w (code_of f (get_or vs i (pos 0))), length_code f (get_or vs i (pos 0)));
        all = λ z h. O.all z h ∙ ap (λ (l : List ℕ). O.w ++ l) is ∙ sym (append_assoc O.w (code_of f (get_or vs i (pos 0))) hop.rest);
      }

      -- a value: on to the next sample
      on_value : f.to ≡ 0 → PartWritten tables vs total out' sink' (i + 1) t (left - (f.prefix + f.remainder))
      on_value z =
          let c = structure_of tables t (get_or work (i * n + (t - 1)) 0) in
          let kind = alive_gives c (get_or vs i (pos 0)) (to_value 8 c right (ap (λ (g : Form). g.to) form ∙ z)) hop.alive in
          onward (i + 1) t O.table (rw kind at hop.after)

      -- a switch: on to its table
      on_switch : (f.to ≡ 0 → ⊥) → PartWritten tables vs total out' sink' i f.to (left - (f.prefix + f.remainder))
      on_switch h =
          let k = get_or work (i * n + (t - 1)) 0 in
          let c = structure_of tables t k in
          let v = get_or vs i (pos 0) in
          let to = leads_switch c (from_zero 131072 0) f.to (form_leads 8 c right small f form 0 h) in
          let kind : kind_of c v ≡ leads f.to = kind_switch c v to.0 ∙ ap leads to.1 in
          onward i f.to ((sound tables ready.right ready.some).onto t k f.to v O.table hop.inside kind)
          (rw (drop-cons vs i (pos 0) inside, ← add-one i) (rw kind at hop.after))

-- ---- all sets of tables that the numbers say

-- a place of the work space
pub place_room : (i t n samples room : ℕ) → i < samples → 1 ≤ t → t ≤ n → samples * n ≤ room → i * n + (t - 1) < room
place_room i t n samples room hi ht hn h = omega (arith, suc-mul i n, mul-le-mul_right n hi)

pub going_start : {tab : List ℕ} {n : ℕ} {vs : List ℤ} {work : List ℕ} {total : ℕ} (out : List ℕ) (sink : Sink)
    → ((tables : List (List Structure)) → Compiled tables tab → length tables ≡ n → Planned tables vs work total)
    → total < cap → Holds out sink [] → PartWrittenBy tab n vs total out out sink 0 1 total
going_start {vs = vs} {work = work} {total = total} out sink plan few holds = record {
  same = refl;
  behind = refl;
  on = λ tables ready many. on_start ready vs work total out sink (plan tables ready many) few holds;
}

module _ {tab : List ℕ} {n : ℕ} {vs : List ℤ} {total : ℕ} {out₀ out : List ℕ} {sink : Sink} {i t left : ℕ} (filled : CompiledCount tab n)
    (G : PartWrittenBy tab n vs total out₀ out sink i t left) where
  on_some : PartWritten filled.0 vs total out sink i t left
  on_some = G.on filled.0 filled.1 filled.2

  pub next_table : (1 ≤ t) × (t ≤ n) × (n ≤ 8)
  next_table = let r = filled.1 in omega (arith, on_some.table, r.most, filled.2)

  -- the bits put and those left are all
  pub next_sink : bits_put sink + left ≡ total
  next_sink = omega (arith, holds_length out sink on_some.w on_some.holds, on_some.sum)

  -- the next code, found in the work space
  module _ {work : List ℕ} (plan : (tables : List (List Structure)) → Compiled tables tab → length tables ≡ n → Planned tables vs work total)
      (few : total < cap) (more : 0 < left) where
    way : Trail filled.0 vs work 0
    way = (plan filled.0 filled.1 filled.2).trail

    pub next_inside : i < length vs
    next_inside = inside filled.1 vs work n total filled.2 way few out sink i t left on_some more

    pub next_place : get_or work (i * n + (t - 1)) 0 < 64
    next_place = place_most filled.1 vs work n total filled.2 way few out sink i t left on_some more

    module _ (f : Form) (e : f ≡ form_in tab t (get_or work (i * n + (t - 1)) 0)) where
      pub next_fine : FineForm f
      next_fine = fine_next filled.1 vs work n total filled.2 way few out sink i t left on_some more f e

      pub next_most : f.prefix + f.remainder ≤ left
      next_most = code_most filled.1 vs work n total filled.2 way few out sink i t left on_some more f e

      -- its code is put
      module _ (out' : List ℕ) (sink' : Sink) (put : (bs : List ℕ) → Holds out sink bs → Holds out' sink' (bs ++ code_of f (get_or vs i (pos 0))))
          (long : length out' ≡ length out) (back : drop sink'.at out' ≡ drop sink'.at out) where
        going_on : (i' t' : ℕ)
            → ((tables : List (List Structure)) → Compiled tables tab → length tables ≡ n
            → PartWritten tables vs total out' sink' i' t' (left - (f.prefix + f.remainder)))
            → PartWrittenBy tab n vs total out₀ out' sink' i' t' (left - (f.prefix + f.remainder))
        going_on i' t' on = record {
          same = long ∙ G.same;
          behind = (let O = on_some in
              rest_on out₀ out out' sink sink' O.w (code_of f (get_or vs i (pos 0))) O.holds (put O.w O.holds) G.behind back);
          on = on;
        }

        pub going_value : f.to ≡ 0 → PartWrittenBy tab n vs total out₀ out' sink' (i + 1) t (left - (f.prefix + f.remainder))
        going_value z =
            going_on (i + 1) t (λ tables ready many.
            let O = G.on tables ready many in
            on_value ready vs work n total many (plan tables ready many).trail few out sink i t left O more f e out' sink'
            (put O.w O.holds) z)

        pub going_switch : (f.to ≡ 0 → ⊥) → PartWrittenBy tab n vs total out₀ out' sink' i f.to (left - (f.prefix + f.remainder))
        going_switch h =
            going_on i f.to (λ tables ready many.
            let O = G.on tables ready many in
            on_switch ready vs work n total many (plan tables ready many).trail few out sink i t left O more f e out' sink'
            (put O.w O.holds) h)

-- the walk went on from where it was
pub going_then : {tab : List ℕ} {n : ℕ} {vs : List ℤ} {total : ℕ} {out₀ out out' : List ℕ} {s s' : Sink} {i t left i' t' left' : ℕ}
    → CompiledCount tab n → PartWrittenBy tab n vs total out₀ out s i t left → PartWrittenBy tab n vs total out out' s' i' t' left' → left' < left
    → PartWrittenBy tab n vs total out₀ out' s' i' t' left'
going_then {out₀ = out₀} {out = out} {s = s} {s' = s'} filled G H less =
    let later : s.at ≤ s'.at = omega (arith, next_sink filled G, next_sink filled H, s.open_byte, s'.open_byte) in record {
      same = H.same ∙ G.same;
      behind = H.behind ∙ rest_later s.at s'.at out out₀ later G.behind;
      on = H.on;
    }

-- nothing is left: the stream is at the front
pub going_end : {tab : List ℕ} {n : ℕ} {vs : List ℤ} {total : ℕ} {out₀ out : List ℕ} {sink : Sink} {i t left : ℕ}
    (G : PartWrittenBy tab n vs total out₀ out sink i t left) → left ≡ 0 → (out' : List ℕ)
    → ((bs : List ℕ) → Holds out sink bs → out' ≡ packed bs ++ drop (length (packed bs)) out)
    → (tables : List (List Structure)) → Compiled tables tab → length tables ≡ n → (bs : List ℕ) → Shortest tables vs bs
    → out' ≡ packed bs ++ drop (bytes_for (length bs)) out₀
going_end {out₀ = out₀} {out = out} {sink = sink} G none out' put tables ready many bs h =
    let O = G.on tables ready many in
    let whole : bs ≡ O.w = O.all bs h ∙ ap (λ (l : List ℕ). O.w ++ l) (drop_of_length-le O.s {i = 0} (omega (arith, O.rest))) ∙ append-nil O.w in
    let later : sink.at ≤ bytes_for (length bs) = omega (arith, holds_length out sink O.w O.holds, ap length whole, sink.open_byte) in
    let last : out' ≡ packed bs ++ drop (length (packed bs)) out = put bs (rw whole O.holds) in
    let rest = rest_later sink.at (bytes_for (length bs)) out out₀ later G.behind in
    last ∙ rw (length_packed bs) (ap (λ (l : List ℕ). packed bs ++ l) rest)
