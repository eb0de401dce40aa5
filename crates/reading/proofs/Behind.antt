-- The codes of a value: reading it and the structures compared for it do not depend on the bits behind them, and they have a bit at
-- least for each 64 structures compared. Assumes nothing.
use Prim.Native.Nat.{ℕ, zero, suc, ◌+◌, ◌*◌, ◌≤◌, ◌<◌}
use mathlib.Core.Path.{◌≡◌, refl, sym, ap, ◌∙◌}
use mathlib.Core.Bool.{true}
use mathlib.Core.List.{List, [], ◌∷◌, ◌++◌, append_assoc}
use mathlib.Core.Option.{Option, none, some}
use native.Mathlib.Decide.{ℕ_discrete, dec_le}
use native.Mathlib.Omega.{arith}
use borrow.Author.Tests.{le-leb, lt-leb}
use lib.IntN.{ℤ}
use lib.ListN.{length, take, drop, length-append, length-drop}
use lib.Seq.{take-append-le, drop-append-le}
use Rattle.wire.proofs.Laws.{unlike}
use Rattle.wire.specs.Bounds.{most_structures}
use Rattle.wire.specs.RuleWords.{every}
use Rattle.tables.specs.declared.Structure.{Structure}
use Rattle.tables.specs.Structures.{prefix_of, remainder_of}
use Rattle.tables.specs.Section2.{table_of, table_right}
use Rattle.reading.specs.Reading.{gave, matching, value_of, read_coded, read_plain, read_next}
use Rattle.reading.specs.Compared.{compared_in, compared_coded, compared_next}
use Rattle.reading.proofs.Laws.{matched, table_there, falls, read_switch, read_value, read_none, compared_switch, compared_value, gave_value, gave_table, gave_rest}
use Rattle.reading.proofs.Trip.{matching_own, compared_own}

-- two bytes, and what is left of the bits
plain_behind : (t : ℕ) (bs z : List ℕ) (v : ℤ) (u : ℕ) (rest : List ℕ) → read_plain t bs ≡ gave v u rest
    → (read_plain t (bs ++ z) ≡ gave v u (rest ++ z)) × (length rest ≤ length bs)
unfolding read_plain
plain_behind t bs z v u rest h = go (dec_le 16 (length bs))
  where
    go : Dec (16 ≤ length bs) → (read_plain t (bs ++ z) ≡ gave v u (rest ++ z)) × (length rest ≤ length bs)
    go (yes l) =
        let g = rw (le-leb 16 (length bs) l) at h in
        let m = le-leb 16 (length (bs ++ z)) (omega (arith, length-append bs z)) in
        let d : take 8 (drop 8 bs ++ z) ≡ take 8 (drop 8 bs) = take-append-le 8 (drop 8 bs) z (omega (arith, length-drop 8 bs)) in (
          rw (m, take-append-le 8 bs z (omega arith), drop-append-le 8 bs z (omega arith), d, drop-append-le 16 bs z l)
              (rw (gave_value g, gave_table g, gave_rest g)),
          omega (arith, length-drop 16 bs, ap length (gave_rest g)),
        )
    go (no l) = let g = rw (lt-leb 16 (length bs) (omega arith)) at h in unlike cc

-- so is a value behind its prefix
value_behind : (r base t : ℕ) (bs z : List ℕ) (v : ℤ) (u : ℕ) (rest : List ℕ) → value_of r base t bs ≡ gave v u rest
    → (value_of r base t (bs ++ z) ≡ gave v u (rest ++ z)) × (length rest ≤ length bs)
unfolding value_of
value_behind zero base t bs z v u rest h = (rw (gave_value h, gave_table h, gave_rest h), omega (arith, ap length (gave_rest h)))
value_behind (suc w) base t bs z v u rest h = go (dec_le (suc w) (length bs))
  where
    go : Dec (suc w ≤ length bs) → (value_of (suc w) base t (bs ++ z) ≡ gave v u (rest ++ z)) × (length rest ≤ length bs)
    go (yes l) =
        let g = rw (le-leb (suc w) (length bs) l) at h in
        let m = le-leb (suc w) (length (bs ++ z)) (omega (arith, length-append bs z)) in (
          rw (m, take-append-le (suc w) bs z l, drop-append-le (suc w) bs z l) (rw (gave_value g, gave_table g, gave_rest g)),
          omega (arith, length-drop (suc w) bs, ap length (gave_rest g)),
        )
    go (no l) = let g = rw (lt-leb (suc w) (length bs) (omega arith)) at h in unlike cc

module _ (n : ℕ) (tables : List (List Structure)) (right : every (table_right n) tables ≡ true) (z : List ℕ) where
  -- the same structure is matched, at the same place
  matching_more : (t : ℕ) (bs : List ℕ) (c : Structure) → matching (table_of tables t) bs ≡ some c
      → (matching (table_of tables t) (bs ++ z) ≡ some c) × (compared_in (table_of tables t) (bs ++ z) ≡ compared_in (table_of tables t) bs)
  matching_more t bs c h =
      let m = matched (table_of tables t) bs c h in
      let rest = drop c.prefix bs in
      let e : bs ++ z ≡ prefix_of c ++ (rest ++ z) = ap (λ (l : List ℕ). l ++ z) m.split ∙ append_assoc (prefix_of c) rest z in (
        rw e (matching_own n tables right t m.place c m.there m.stands (rest ++ z)),
        ap (compared_in (table_of tables t)) e
            ∙ compared_own n tables right t m.place c m.there m.stands (rest ++ z)
            ∙ sym m.counted,
      )

  -- a table has no more than 64 structures, and a prefix has a bit at least
  code_few : (t : ℕ) (bs : List ℕ) (c : Structure) → matching (table_of tables t) bs ≡ some c
      → compared_in (table_of tables t) bs + most_structures * length (drop c.prefix bs) ≤ most_structures * length bs
  code_few t bs c h =
      let m = matched (table_of tables t) bs c h in
      let most = (table_there n tables right t (omega (arith, m.there))).most in
      omega (arith, falls n tables right t bs c h, m.counted, m.there)

  -- a value that is read of the bits by the tables, with others behind them and without
  record Codes (t : ℕ) (bs : List ℕ) (v : ℤ) (u : ℕ) (rest : List ℕ) : Type 0 where
    read : read_coded tables t (bs ++ z) ≡ gave v u (rest ++ z)
    compared : compared_coded tables t (bs ++ z) ≡ compared_coded tables t bs
    few : compared_coded tables t bs + most_structures * length rest ≤ most_structures * length bs

  -- the same of all bits that are fewer than f
  Shorter : ℕ → Type 0
  Shorter f = (t : ℕ) (bs : List ℕ) (v : ℤ) (u : ℕ) (rest : List ℕ) → length bs < f → read_coded tables t bs ≡ gave v u rest
      → Codes t bs v u rest

  coded_step : (f : ℕ) → Shorter f → Shorter (suc f)
  unfolding Shorter
  coded_step f later t bs v u rest l h = found (matching (table_of tables t) bs) refl
    where
      by_mode : (c : Structure) → matching (table_of tables t) bs ≡ some c → Dec (c.mode ≡ 0) → Codes t bs v u rest
      by_mode c e (yes m) =
          let short : length (drop c.prefix bs) < f = omega (arith, falls n tables right t bs c e) in
          let more = matching_more t bs c e in
          let front = drop-append-le c.prefix bs z (matched (table_of tables t) bs c e).long in
          let next = later c.base (drop c.prefix bs) v u rest short (sym (read_switch n tables right t bs c e m) ∙ h) in
          let own = compared_switch n tables right t bs c e m in
          record {
            read = read_switch n tables right t (bs ++ z) c more.0 m ∙ rw front next.read;
            compared = compared_switch n tables right t (bs ++ z) c more.0 m ∙ rw (front, more.1, next.compared) (sym own);
            few = omega (arith, own, next.few, code_few t bs c e);
          }
      by_mode c e (no m) =
          let more = matching_more t bs c e in
          let front = drop-append-le c.prefix bs z (matched (table_of tables t) bs c e).long in
          let value = sym (read_value n tables right t bs c e m) ∙ h in
          let own = compared_value n tables right t bs c e m in
          let behind = value_behind (remainder_of c) c.base t (drop c.prefix bs) z v u rest value in
          record {
            read = read_value n tables right t (bs ++ z) c more.0 m ∙ rw front behind.0;
            compared = compared_value n tables right t (bs ++ z) c more.0 m ∙ more.1 ∙ sym own;
            few = omega (arith, own, behind.1, code_few t bs c e);
          }

      found : (o : Option Structure) → matching (table_of tables t) bs ≡ o → Codes t bs v u rest
      found none e = let g = sym (read_none n tables right t bs e) ∙ h in unlike cc
      found (some c) e = by_mode c e (ℕ_discrete c.mode 0)

  coded_within : (f : ℕ) → Shorter f
  unfolding Shorter
  coded_within zero t bs v u rest l h = absurd (omega arith)
  coded_within (suc f) t bs v u rest l h = coded_step f (coded_within f) t bs v u rest l h

  module _ (t : ℕ) (bs : List ℕ) (v : ℤ) (u : ℕ) (rest : List ℕ) (h : read_next tables t bs ≡ gave v u rest) where
    next_codes : (read_next tables t (bs ++ z) ≡ gave v u (rest ++ z))
        × (compared_next tables t (bs ++ z) ≡ compared_next tables t bs)
        × (compared_next tables t bs + most_structures * length rest ≤ most_structures * length bs)
    unfolding read_next compared_next Shorter
    next_codes = go tables refl h
      where
        go : (ts : List (List Structure)) → tables ≡ ts → read_next ts t bs ≡ gave v u rest
            → (read_next ts t (bs ++ z) ≡ gave v u (rest ++ z)) × (compared_next ts t (bs ++ z) ≡ compared_next ts t bs)
            × (compared_next ts t bs + most_structures * length rest ≤ most_structures * length bs)
        go [] e g = let d = plain_behind t bs z v u rest g in (d.0, refl, omega (arith, d.1))
        go (cs ∷ ts) e g =
            let d = coded_within (suc (length bs)) t bs v u rest (omega arith) (rw (← e) at g) in
            rw (← e) (d.read, d.compared, d.few)

    -- the next value, whatever follows
    pub next_behind : read_next tables t (bs ++ z) ≡ gave v u (rest ++ z)
    next_behind = next_codes.0

    -- and the structures compared for it
    pub compared_behind : compared_next tables t (bs ++ z) ≡ compared_next tables t bs
    compared_behind = next_codes.1

    -- these are no more than 64 for each bit
    pub compared_few : compared_next tables t bs + most_structures * length rest ≤ most_structures * length bs
    compared_few = next_codes.2
