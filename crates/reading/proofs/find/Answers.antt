-- The structure that the first bits point to is tested before it is taken; where it passes, no other structure of a right table
-- matches.
use Prim.Native.Nat.{ℕ, suc, ◌%◌, ◌<◌}
use mathlib.Core.Path.{◌≡◌, sym, ap, ◌∙◌}
use mathlib.Core.List.{List, []}
use mathlib.Core.Option.{some}
use native.Mathlib.Omega.{arith}
use lib.ListN.{length, get_or}
use Rattle.tables.specs.declared.Structure.{Structure}
use Rattle.tables.specs.Structures.{no_structure}
use Rattle.compiled.proofs.Laws.{held_form, held_fine, held_apart}
use Rattle.compiled.specs.InnerForm.{form_of, Compiled}
use Rattle.reading.specs.Reading.{matching}
use Rattle.reading.specs.Compared.{compared_in}
use Rattle.reading.specs.InnerCursor.{Seen, formed}
use Rattle.reading.proofs.Trip.{matching_begun}
use Rattle.reading.proofs.find.Goals as goal
use Rattle.reading.proofs.find.Goals.{Then-fits_guess}

pub fits_guess-requires : goal.fits_guess-requires
fits_guess-requires c =
    let f = held_fine c.requires.0.1 c.args.t (omega arith) (c.guess-guess.result % 64) (omega arith) in
    rw c.form_at-guessed.ensures (f.some, f.most)

-- the structure at the guessed place is the one that is matched, and its form was read there
guessed : (c : Then-fits_guess) →
    let a = c.args in
    let k = c.guess-guess.result % 64 in
    (tables : List (List Structure)) (bs : List ℕ) → Compiled tables a.tab.now → Seen bs a.w a.left →
    let cs = get_or tables a.t [] in
    (form_of (get_or cs k no_structure) ≡ c.form_at-guessed.result)
    × (matching cs bs ≡ some (get_or cs k no_structure))
    × (compared_in cs bs ≡ suc k)
guessed c tables bs ready seen =
    let t = c.args.t in
    let k = c.guess-guess.result % 64 in
    let cs = get_or tables t [] in
    let there : k < length cs = omega (arith, (ready.says t (omega arith)).count) in
    let e = sym (c.form_at-guessed.ensures ∙ held_form ready t (omega arith) k (omega arith)) in
    let begun = c.fits_guess.ensures (get_or cs k no_structure) bs e seen c.if-fits_guess.true in
    let m = matching_begun cs (held_apart ready t (omega arith)) k there bs begun in
    (e, m.0, m.1)

pub returns-then-fits_guess : goal.returns-then-fits_guess
returns-then-fits_guess c = record {
  found = λ tables bs ready seen.
      let g = guessed c tables bs ready seen in
      ap some (sym g.0) ∙ ap formed (sym g.1);
  placed = λ tables bs ready seen. omega (arith, (guessed c tables bs ready seen).2);
}
