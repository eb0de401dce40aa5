use Prim.Native.Nat.{ℕ, ◌<◌}
use mathlib.Core.Path.{◌≡◌, sym, ap, ◌∙◌}
use mathlib.Core.List.{List, []}
use mathlib.Core.Option.{some}
use native.Mathlib.Numerals.{add-one}
use native.Mathlib.Omega.{arith}
use lib.ListN.{length, get_or}
use Rattle.bits.specs.Bits.{begins}
use Rattle.tables.specs.declared.Structure.{Structure}
use Rattle.tables.specs.Structures.{prefix_of, no_structure}
use Rattle.compiled.specs.InnerForm.{form_of, Compiled}
use Rattle.compiled.proofs.Laws.{held_count, held_form, held_fine}
use Rattle.reading.specs.InnerCursor.{Seen, formed}
use Rattle.reading.proofs.Cursors.{matching_here, matching_behind, matching_end}
use Rattle.reading.proofs.walk.Goals as goal
use Rattle.reading.proofs.walk.Goals.{After-begins_with}

pub form_at-f-requires : goal.form_at-f-requires
form_at-f-requires c = let ready = c.requires.0.1 in
    (ready.room, omega arith, omega (arith, held_count ready c.args.t (omega arith)))

pub begins_with-requires : goal.begins_with-requires
begins_with-requires c =
    let f = held_fine c.requires.0.1 c.args.t (omega arith) c.loop-k.k (omega arith) in
    rw c.form_at-f.ensures (f.some, f.most)

-- the window tells whether the structure at k is the one
tells : (c : After-begins_with) →
    let a = c.args in
    (tables : List (List Structure)) (bs : List ℕ) → Compiled tables a.tab.now → Seen bs a.w a.left →
    let d = get_or (get_or tables a.t []) c.loop-k.k no_structure in
    (form_of d ≡ c.form_at-f.result) × (c.begins_with.result ≡ begins (prefix_of d) bs)
tells c tables bs ready seen =
    let a = c.args in
    let k = c.loop-k.k in
    let e = sym (c.form_at-f.ensures ∙ held_form ready a.t (omega arith) k (omega arith)) in
    (e, c.begins_with.ensures (get_or (get_or tables a.t []) k no_structure) bs e seen)

-- there is a structure at k
there : (c : After-begins_with) →
    let a = c.args in
    (tables : List (List Structure)) → Compiled tables a.tab.now → c.loop-k.k < length (get_or tables a.t [])
there c tables ready = omega (arith, (ready.says c.args.t (omega arith)).count)

pub returns-then-begins_with : goal.returns-then-begins_with
returns-then-begins_with c = let l = c.loop-k in
    let cs : List (List Structure) → List Structure =
    λ tables. get_or tables c.args.t [] in record {
      found = λ tables bs ready seen.
          let told = tells (goal.at.returns-then-begins_with c).After-begins_with tables bs ready seen in
          let here = matching_here (cs tables) bs l.k (there (goal.at.returns-then-begins_with c).After-begins_with tables ready) (sym told.1 ∙ c.if-begins_with.true) in
          ap some (sym told.0) ∙ ap formed (sym here.0 ∙ (l.invariant tables bs ready seen).0);
      placed = λ tables bs ready seen.
          let told = tells (goal.at.returns-then-begins_with c).After-begins_with tables bs ready seen in
          let here = matching_here (cs tables) bs l.k (there (goal.at.returns-then-begins_with c).After-begins_with tables ready) (sym told.1 ∙ c.if-begins_with.true) in
          omega (arith, here.1, (l.invariant tables bs ready seen).1);
    }

pub loop-k-preserved : goal.loop-k-preserved
loop-k-preserved c = let l = c.loop-k in
    λ tables bs ready seen.
    let cs = get_or tables c.args.t [] in
    let told = tells (goal.at.loop-k-preserved c).After-begins_with tables bs ready seen in
    let behind = matching_behind cs bs l.k (there (goal.at.loop-k-preserved c).After-begins_with tables ready) (sym told.1 ∙ c.if-begins_with.false) in
    let inv = l.invariant tables bs ready seen in
    rw (add-one l.k) (sym behind.0 ∙ inv.0, omega (arith, behind.1, inv.1))

pub returns : goal.returns
returns c = let l = c.loop-k in
    let t = c.args.t in record {
      found = λ tables bs ready seen.
          let end = matching_end (get_or tables t []) bs l.k (omega (arith, (ready.says t (omega arith)).count)) in
          ap formed (sym end ∙ (l.invariant tables bs ready seen).0);
      placed = λ tables bs ready seen. tt;
    }
