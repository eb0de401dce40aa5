-- Records added one after another give the index that is built afresh, and looking up shows all and only the entries asked for. Assumes
-- nothing.
use Prim.Native.Nat.{ℕ, suc, ◌+◌, ◌-◌, ◌≤◌}
use mathlib.Core.Path.{◌≡◌, refl, sym, ap, ◌∙◌}
use mathlib.Core.Bool.{true, not, and-eq-true_iff}
use mathlib.Core.List.{List, [], ◌∷◌, ◌++◌, map, map-append, append_assoc, append-nil}
use mathlib.Core.Logic.{◌↔◌}
use native.Mathlib.Omega.{arith}
use borrow.Author.Tests.{le-leb, eq-eqb, ne_eqb}
use lib.Dec.{leb, ltb}
use lib.ListN.{length, take, drop, length-append, length-drop, take-append-drop}
use lib.Seq.{length-take-le, append_snoc, take-append_seam, take_at, drop_at}
use Rattle.wire.specs.RuleWords.{every, are_bytes}
use Rattle.wire.proofs.Places.{stands_part}
use Rattle.wire.proofs.Every.{every_parts, every_join, every_more, every_cut, every_map}
use Rattle.packing.proofs.Sinks.{rest_later}
use Rattle.record.specs.Opening.{opens}
use Rattle.fields.specs.Lookup.{part_bytes}
use Rattle.index.specs.Entry.{Entry, entry_bytes, entry_size, year_fits, entry_right}
use Rattle.index.specs.Order.{in_order}
use Rattle.index.specs.Index.{index_bytes, bytes_in, entries_in, is_index, index_right, front, behind, up_to, placed, smaller, has, part_or_none, found, find_place}
use Rattle.index.proofs.Walk.{bytes_split, index_ordered}
use Rattle.filing.specs.Filing.{section3_kept, entry_of, room_right, add_refusal, add_answer, place_for, put_in, index_after}
use Rattle.filing.proofs.Laws.{index_used, all_kept_lem}
use Rattle.arranged.specs.Arranged.{those, Arranged}
use Rattle.arranged.proofs.Parts.{split, every_those}
use Rattle.arranged.proofs.Arranging.{nothing, put_in_lem, in_order_lem, one, rule_kept, those_arranged}
use Rattle.arranged.proofs.LookedUp.{looked_up, only_those}
use Rattle.afresh.specs.Afresh.{filable, BuiltAfresh, EntriesInOrder, StoredAny, AddedAll, done, next, Accepted, Stored, AllAndOnly, LookedUpIn}
use Rattle.index.proofs.Bytes.{index_length, index_append, bytes_append, entries_back, bytes_back, entries_right, years_fit}
use Rattle.afresh.proofs.Filed.{filed_right, filed_year}

-- a record that breaks no rule of its own is bytes
filable_bytes : (r : List ℕ) → filable r ≡ true → are_bytes r ≡ true
unfolding filable
filable_bytes r h = ((and-eq-true_iff (are_bytes r) _).0 h).0

-- ---- an index is the bytes of entries that keep their rules, in order

-- such bytes are an index
pub index_of : (es : List Entry) → every entry_right es ≡ true → every year_fits es ≡ true → in_order es ≡ true → is_index (index_bytes es) ≡ true
unfolding is_index
index_of es right years ordered =
    rw (entries_back es right years, eq-eqb (bytes_in es) (length (index_bytes es)) (sym (index_length es))) ordered

-- and no others are
pub index_exactly : (s : List ℕ) → are_bytes s ≡ true → (is_index s ≡ true) ↔ EntriesInOrder s
index_exactly s b = (there, λ (o : EntriesInOrder s). rw o.bytes (index_of o.entries o.right o.years o.ordered))
  where
    there : is_index s ≡ true → EntriesInOrder s
    there h = record {
      entries = entries_in s;
      right = entries_right s;
      years = years_fit s;
      ordered = index_ordered s h;
      bytes = sym (bytes_back s b h);
    }

-- ---- an index built afresh

module _ (rs : List (List ℕ)) (s : List ℕ) (b : BuiltAfresh rs s) where
  -- its entries keep their rules
  built_kept : every entry_right b.entries ≡ true
  built_kept = rule_kept entry_right (map entry_of rs) b.entries b.arranged (every_map filable entry_right entry_of filed_right rs b.filed)

  built_years : every year_fits b.entries ≡ true
  built_years =
      rule_kept year_fits (map entry_of rs) b.entries b.arranged
      (every_map filable year_fits entry_of (λ r h. filed_year r (filable_bytes r h)) rs b.filed)

  -- they are read back from its bytes
  built_entries : entries_in s ≡ b.entries
  built_entries = ap entries_in b.bytes ∙ entries_back b.entries built_kept built_years

  pub read_back : Arranged (map entry_of rs) (entries_in s)
  read_back = rw built_entries b.arranged

  -- it is an index
  pub built_index : is_index s ≡ true
  built_index = rw b.bytes (index_of b.entries built_kept built_years b.arranged.ordered)

-- the bytes in use of a right one are an index, and its entries are in order
index_parts : (lent : List ℕ) (used : ℕ) → index_right lent used ≡ true
    → (is_index (take used lent) ≡ true) × (in_order (entries_in (take used lent)) ≡ true)
unfolding index_right
index_parts lent used h =
    let i = ((and-eq-true_iff (leb used (length lent)) _).0 h).1 in
    (i, index_ordered (take used lent) i)

-- so the bytes in use are right where they are one
built_right : (rs : List (List ℕ)) (lent : List ℕ) (used : ℕ) → used ≤ length lent → BuiltAfresh rs (take used lent)
    → index_right lent used ≡ true
unfolding index_right
built_right rs lent used fits b = rw (le-leb used (length lent) fits) (built_index rs (take used lent) b)

-- there is one index of records in an order of arrival
pub one_index : (rs : List (List ℕ)) (s t : List ℕ) → BuiltAfresh rs s → BuiltAfresh rs t → s ≡ t
one_index rs s t a b =
    a.bytes ∙ ap index_bytes (one (map entry_of rs) a.entries b.entries a.arranged b.arranged) ∙ sym b.bytes

-- the index of no records is empty
pub built_none : BuiltAfresh [] []
unfolding index_bytes every
built_none = record { filed = refl; entries = []; arranged = nothing; bytes = refl }

-- ---- when adding accepts a record

-- a record that breaks no rule of its own, and for whose entry there is room, is accepted
pub accepted_one : (rs : List (List ℕ)) (lent : List ℕ) (used : ℕ) (r : List ℕ) → BuiltAfresh rs (take used lent) → filable r ≡ true
    → used + entry_size (entry_of r) ≤ length lent → (add_answer lent used r).refusal ≡ 0
unfolding add_answer add_refusal filable room_right
accepted_one rs lent used r b f room =
    let o = (and-eq-true_iff (opens r) _).0 ((and-eq-true_iff (are_bytes r) _).0 f).1 in
    let k = (and-eq-true_iff (section3_kept r) _).0 o.1 in
    rw (
      built_right rs lent used (omega arith) b,
      o.0,
      k.0,
      k.1,
      le-leb (used + entry_size (entry_of r)) (length lent) room,
    )

module _ (lent : List ℕ) (used : ℕ) (r : List ℕ) (ok : (add_answer lent used r).refusal ≡ 0) where
  -- bytes that are accepted break no rule of their own, and there is room for their entry
  accepted_filable : are_bytes r ≡ true → (filable r ≡ true) × (used + entry_size (entry_of r) ≤ length lent)
  unfolding add_answer filable
  accepted_filable bytes = let k = all_kept_lem lent used r ok in (rw (bytes, k.opened, k.section3, k.date), k.room)

  -- how many bytes are in use then
  used_then : (add_answer lent used r).used ≡ used + entry_size (entry_of r)
  unfolding add_answer
  used_then = rw ok

  -- and what the lent bytes are
  after_then : index_after lent used r ≡ put_in lent used (place_for (entry_of r) (entries_in (take used lent))) (entry_of r)
  unfolding add_answer index_after
  after_then = rw ok

-- ---- putting an entry in

-- it stands between the bytes before its place and those in use from there on, and the rest is as it was
put_between : (lent a b rest : List ℕ) (at used : ℕ) (e : Entry) → lent ≡ a ++ (b ++ rest) → length a ≡ at → length a + length b ≡ used
    → put_in lent used at e ≡ (a ++ (entry_bytes e ++ b)) ++ drop (used + entry_size e) lent
unfolding put_in
put_between lent a b rest at used e whole place size =
    let n : used - at ≡ length b = omega arith in
    let first : take at lent ≡ a = ap (take at) whole ∙ take_at a (b ++ rest) at place in
    let later : drop at lent ≡ b ++ rest = ap (drop at) whole ∙ drop_at a (b ++ rest) at place in
    rw (n, first, later, take-append_seam b rest, append_assoc a (entry_bytes e ++ b), append_assoc (entry_bytes e) b)

-- entries with one put in have that many bytes more
pub placed_size : (e : Entry) (es : List Entry) → bytes_in (placed e es) ≡ bytes_in es + entry_size e
unfolding bytes_in
placed_size e es =
    omega (arith, bytes_split (up_to e) es, bytes_append (front (up_to e) es) (e ∷ behind (up_to e) es))

-- put into the bytes of entries, an entry stands among them at its place
put_bytes : (lent : List ℕ) (used : ℕ) (es : List Entry) (e : Entry) → take used lent ≡ index_bytes es → bytes_in es ≡ used
    → put_in lent used (place_for e es) e ≡ index_bytes (placed e es) ++ drop (used + entry_size e) lent
unfolding place_for index_bytes
put_bytes lent used es e bytes size =
    let near = front (up_to e) es in
    let far = behind (up_to e) es in
    let halves : index_bytes es ≡ index_bytes near ++ index_bytes far = ap index_bytes (split (up_to e) es) ∙ index_append near far in
    let whole : lent ≡ index_bytes near ++ (index_bytes far ++ drop used lent) =
    sym (take-append-drop used lent) ∙ rw (bytes, halves, append_assoc) in
    let sum : length (index_bytes near) + length (index_bytes far) ≡ used =
    sym (length-append (index_bytes near) (index_bytes far)) ∙ ap length (sym halves) ∙ index_length es ∙ size in
    put_between lent (index_bytes near) (index_bytes far) (drop used lent) (bytes_in near) used e whole (index_length near) sum
    ∙ rw (index_append near (e ∷ far))

-- bytes that begin with others, and go on as what was lent does
pub record Begun (s lent after : List ℕ) (end : ℕ) : Type 0 where
  pub first : take end after ≡ s
  pub rest : drop end after ≡ drop end lent
  pub size : length after ≡ length lent

-- so do those that are put together of them
pub begun_with : (s lent after : List ℕ) (end : ℕ) → length s ≡ end → end ≤ length lent → after ≡ s ++ drop end lent → Begun s lent after end
begun_with s lent after end long room whole = record {
  first = ap (take end) whole ∙ take_at s (drop end lent) end long;
  rest = ap (drop end) whole ∙ drop_at s (drop end lent) end long;
  size = ap length whole ∙ rw (length-append, length-drop) (omega arith);
}

-- a record that is accepted by an index of entries leaves the bytes of these and its own, at its place
begun : (lent : List ℕ) (used : ℕ) (r : List ℕ) (es : List Entry) → (add_answer lent used r).refusal ≡ 0 → take used lent ≡ index_bytes es
    → entries_in (take used lent) ≡ es
    → Begun (index_bytes (placed (entry_of r) es)) lent (index_after lent used r) (used + entry_size (entry_of r))
unfolding add_answer
begun lent used r es ok bytes entries =
    let k = all_kept_lem lent used r ok in
    let e = entry_of r in
    let s = index_bytes (placed e es) in
    let end = used + entry_size e in
    let size : bytes_in es ≡ used =
    sym (index_length es) ∙ ap length (sym bytes) ∙ length-take-le used lent (index_used lent used k.index) in
    let long : length s ≡ end = index_length (placed e es) ∙ placed_size e es ∙ rw size in
    let whole : index_after lent used r ≡ s ++ drop end lent =
    after_then lent used r ok ∙ rw entries (put_bytes lent used es e bytes size) in
    begun_with s lent (index_after lent used r) end long k.room whole

-- adding a record to an index built afresh gives the index of it and those before it, built afresh
pub adding : (rs : List (List ℕ)) (lent : List ℕ) (used : ℕ) (r : List ℕ) → BuiltAfresh rs (take used lent) → are_bytes r ≡ true
    → (add_answer lent used r).refusal ≡ 0 → Stored (rs ++ (r ∷ [])) lent (index_after lent used r) (add_answer lent used r).used
adding rs lent used r b bytes ok =
    let e = entry_of r in
    let es = b.entries in
    let f = accepted_filable lent used r ok bytes in
    let w = begun lent used r es ok b.bytes (built_entries rs (take used lent) b) in
    let now : BuiltAfresh (rs ++ (r ∷ [])) (index_bytes (placed e es)) =
    record {
      filed = every_more filable rs r b.filed f.0;
      entries = placed e es;
      arranged = rw map-append (put_in_lem (map entry_of rs) es e b.arranged);
      bytes = refl;
    } in
    rw (used_then lent used r ok)
    (record { index = rw w.first now; fits = omega (arith, f.1, w.size); rest = w.rest; size = w.size })

-- adding a record to any index gives the index of its entry and those that were there, arranged
pub adding_any : (lent : List ℕ) (used : ℕ) (r : List ℕ) → are_bytes lent ≡ true → are_bytes r ≡ true → (add_answer lent used r).refusal ≡ 0
    → StoredAny (entries_in (take used lent) ++ (entry_of r ∷ [])) lent (index_after lent used r) (add_answer lent used r).used
unfolding add_answer index_right
adding_any lent used r bytes own ok =
    let s = take used lent in
    let es = entries_in s in
    let e = entry_of r in
    let f = accepted_filable lent used r ok own in
    let i = index_parts lent used (all_kept_lem lent used r ok).index in
    let w = begun lent used r es ok (sym (bytes_back s (every_cut (λ b. ltb b 256) used lent bytes).0 i.0)) refl in
    let arranged = put_in_lem es es e (in_order_lem es i.1) in
    let right = rule_kept entry_right (es ++ (e ∷ [])) (placed e es) arranged (every_more entry_right es e (entries_right s) (filed_right r f.0)) in
    let years = rule_kept year_fits (es ++ (e ∷ [])) (placed e es) arranged (every_more year_fits es e (years_fit s) (filed_year r own)) in
    let within = le-leb (used + entry_size e) (length (index_after lent used r)) (omega (arith, f.1, w.size)) in
    rw (used_then lent used r ok) (record {
      right = rw (w.first, within) (index_of (placed e es) right years arranged.ordered);
      arranged = rw (w.first, entries_back (placed e es) right years) arranged;
      rest = w.rest;
      size = w.size;
    })

-- ---- adding records one after another

-- what an adding and those after it leave, together
stored_on : (rs : List (List ℕ)) (lent between after : List ℕ) (used end : ℕ) → drop used between ≡ drop used lent
    → length between ≡ length lent → used ≤ end → Stored rs between after end → Stored rs lent after end
stored_on rs lent between after used end rest size h s = record {
  index = s.index;
  fits = s.fits;
  rest = s.rest ∙ rest_later used end between lent h rest;
  size = s.size ∙ size;
}

-- records added to the index of others that is built afresh, and each accepted
added_from : {lent after : List ℕ} {used end : ℕ} {rs : List (List ℕ)} (old : List (List ℕ)) → AddedAll lent used rs after end
    → every are_bytes rs ≡ true → used ≤ length lent → BuiltAfresh old (take used lent) → Stored (old ++ rs) lent after end × (used ≤ end)
added_from old (done {lent = lent} {used = used}) bs fits b =
    (rw append-nil (record { index = b; fits = fits; rest = refl; size = refl }), omega arith)
added_from old (next {lent = lent} {after = after} {used = used} {end = end} r rs ok all) bs fits b =
    let p = every_parts are_bytes r rs bs in
    let now = adding old lent used r b p.0 ok in
    let used' = (add_answer lent used r).used in
    let k = added_from (old ++ (r ∷ [])) all p.1 now.fits now.index in
    let whole = stored_on (old ++ (r ∷ []) ++ rs) lent (index_after lent used r) after used' end now.rest now.size k.1 k.0 in
    (rw append_snoc at whole, omega (arith, used_then lent used r ok, k.1))

-- records added one after another, each accepted, give the index built afresh from them
pub added_all : (lent after : List ℕ) (end : ℕ) (rs : List (List ℕ)) → every are_bytes rs ≡ true → AddedAll lent 0 rs after end
    → Stored rs lent after end
added_all lent after end rs bs all = (added_from [] all bs (omega arith) built_none).0

-- behind others that were added, each is accepted where none breaks a rule of its own and there is room for all
accepted_from : (old rs : List (List ℕ)) (lent : List ℕ) (used : ℕ) → every filable rs ≡ true → BuiltAfresh old (take used lent)
    → used + bytes_in (map entry_of rs) ≤ length lent → Accepted lent used rs
unfolding bytes_in
accepted_from old [] lent used fs b room = record { after = lent; end = used; added = done }
accepted_from old (r ∷ rs) lent used fs b room =
    let f = every_parts filable r rs fs in
    let ok = accepted_one old lent used r b f.0 (omega arith) in
    let now = adding old lent used r b (filable_bytes r f.0) ok in
    let used' = (add_answer lent used r).used in
    let room' : used' + bytes_in (map entry_of rs) ≤ length (index_after lent used r) =
    omega (arith, used_then lent used r ok, now.size) in
    let later = accepted_from (old ++ (r ∷ [])) rs (index_after lent used r) used' f.1 now.index room' in
    record { after = later.after; end = later.end; added = next {after = later.after} {end = later.end} r rs ok later.added }

-- so it is from the start: an index that adding made is never refused
pub accepted_all : (lent : List ℕ) (rs : List (List ℕ)) → every filable rs ≡ true → bytes_in (map entry_of rs) ≤ length lent
    → Accepted lent 0 rs
accepted_all lent rs fs room = accepted_from [] rs lent 0 fs built_none (omega arith)

-- ---- looking up

-- a part that lies behind others is shown; an empty one as no bytes
part_shown : (l a x rest : List ℕ) → l ≡ a ++ (x ++ rest) → part_bytes l (part_or_none (length a) (length x)) ≡ x
part_shown l a [] rest e = refl
part_shown l a (b ∷ x) rest e =
    rw (ne_eqb (suc (length x)) 0 (omega arith)) (stands_part (record { front = a; rest = rest; split = e; place = refl }))

module _ (id : List ℕ) (es : List Entry) where
  -- the entries before the part that is found
  abbrev ahead : List Entry
  ahead = front (smaller id) es

  -- those in it
  abbrev inside : List Entry
  inside = front (has id) (behind (smaller id) es)

  -- and those behind it
  abbrev past : List Entry
  past = behind (has id) (behind (smaller id) es)

  -- these are all
  found_parts : es ≡ ahead ++ (inside ++ past)
  found_parts = split (smaller id) es ∙ ap (λ (l : List Entry). ahead ++ l) (split (has id) (behind (smaller id) es))

  -- so are their bytes
  found_bytes : index_bytes es ≡ index_bytes ahead ++ (index_bytes inside ++ index_bytes past)
  found_bytes =
      ap index_bytes found_parts ∙ index_append ahead (inside ++ past)
      ∙ ap (λ (l : List ℕ). index_bytes ahead ++ l) (index_append inside past)

  -- where bytes begin with those of the entries, the part's bytes are shown
  found_shown : (l rest : List ℕ) → l ≡ index_bytes es ++ rest → part_bytes l (found id es) ≡ index_bytes inside
  unfolding found
  found_shown l rest e =
      let whole : l ≡ index_bytes ahead ++ (index_bytes inside ++ (index_bytes past ++ rest)) =
      e ∙ ap (λ (k : List ℕ). k ++ rest) found_bytes ∙ rw (append_assoc (index_bytes ahead), append_assoc (index_bytes inside)) in
      rw (← index_length ahead, ← index_length inside)
      (part_shown l (index_bytes ahead) (index_bytes inside) (index_bytes past ++ rest) whole)

-- in a right index the part is looked for among its entries
find_found : (lent id : List ℕ) (used : ℕ) → index_right lent used ≡ true → find_place lent used id ≡ found id (entries_in (take used lent))
unfolding find_place
find_found lent id used h = rw h

-- looking up shows all and only the entries of the identifier
pub all_and_only : (lent id : List ℕ) (used : ℕ) → are_bytes lent ≡ true → index_right lent used ≡ true
    → AllAndOnly id (take used lent) (find_place lent used id)
unfolding found
all_and_only lent id used b h =
    let s = take used lent in
    let es = entries_in s in
    let i = index_parts lent used h in
    let own : index_bytes es ≡ s = bytes_back s (every_cut (λ b. ltb b 256) used lent b).0 i.0 in
    let place = find_found lent id used h in
    let l = looked_up id es i.1 in
    record {
      ahead = ahead id es;
      inside = inside id es;
      rest = past id es;
      entries = found_parts id es;
      whole = sym own ∙ found_bytes id es;
      shown = place;
      bytes = ap (part_bytes s) place ∙ found_shown id es s [] (sym own ∙ sym (append-nil (index_bytes es)));
      own = l.within;
      others = every_join (λ e. not (has id e)) (ahead id es) (past id es) l.ahead l.past;
    }

-- in an index built afresh, looking up shows those of the records' entries
pub built_look_up : (rs : List (List ℕ)) (lent id : List ℕ) (used : ℕ) → used ≤ length lent → BuiltAfresh rs (take used lent)
    → LookedUpIn rs id (part_bytes lent (find_place lent used id))
built_look_up rs lent id used fits b =
    let es = b.entries in
    let place : find_place lent used id ≡ found id es =
    find_found lent id used (built_right rs lent used fits b) ∙ ap (found id) (built_entries rs (take used lent) b) in
    let whole : lent ≡ index_bytes es ++ drop used lent =
    sym (take-append-drop used lent) ∙ ap (λ (l : List ℕ). l ++ drop used lent) b.bytes in
    let bytes : part_bytes lent (find_place lent used id) ≡ index_bytes (those (has id) es) =
    ap (part_bytes lent) place ∙ found_shown id es lent (drop used lent) whole ∙ ap index_bytes (only_those id es b.arranged.ordered) in
    record {
      entries = those (has id) es;
      arranged = those_arranged id (map entry_of rs) es b.arranged;
      bytes = bytes;
      read = ap entries_in bytes
          ∙ entries_back (those (has id) es) (every_those entry_right (has id) es (built_kept rs (take used lent) b))
          (every_those year_fits (has id) es (built_years rs (take used lent) b));
    }
