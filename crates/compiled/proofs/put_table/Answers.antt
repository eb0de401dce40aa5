use Prim.Native.Nat.{◌+◌, ◌*◌, ◌<◌}
use mathlib.Core.Path.{◌≡◌, sym, ap, ◌∙◌}
use mathlib.Core.Bool.{true}
use native.Mathlib.Omega.{arith}
use borrow.Author.Rules.{rules}
use lib.ListN.{length, get_or}
use Rattle.wire.specs.Numbers.{number_at}
use Rattle.tables.specs.declared.Structure.{Structure}
use Rattle.tables.specs.Structures.{structure_at, structures_at, structure_right, no_structure}
use Rattle.wire.proofs.Every.{every_at}
use Rattle.tables.proofs.Laws.{fine, length_structures_at, get_d_structures_at}
use Rattle.compiled.specs.InnerForm.{form_of}
use Rattle.compiled.proofs.Laws.{form_fine, form_room}
use Rattle.compiled.proofs.Putting.{upto_start, upto_turn, upto_end}
use Rattle.compiled.proofs.put_table.Goals as goal
use Rattle.compiled.proofs.put_table.Goals.{After-structure_at}

pub loop-k-init : goal.loop-k-init
loop-k-init c = let a = c.args in
    upto_start (structures_at a.s.now a.o a.n) a.tab.now a.t a.n (omega arith) (omega arith)
    (sym (length_structures_at a.s.now a.o a.n))

-- the structure that a turn reads is the next of the table
next : (c : After-structure_at) →
    let a = c.args in
    c.structure_at.result ≡ get_or (structures_at a.s.now a.o a.n) c.loop-k.k no_structure
next c =
    let a = c.args in
    let l = c.loop-k in
    c.structure_at.ensures
    ∙ sym (get_d_structures_at a.s.now a.o a.n l.k (omega arith))

-- so it is right
right : (c : After-structure_at) →
    structure_right c.args.tables c.structure_at.result ≡ true
right c =
    let a = c.args in
    let l = c.loop-k in
    let cs = structures_at a.s.now a.o a.n in
    let within : l.k < length cs = omega (arith, length_structures_at a.s.now a.o a.n) in
    rw (next c) (every_at (structure_right a.tables) no_structure cs c.requires.n_value l.k within)

pub form_of-requires : goal.form_of-requires
unfolding structure_at number_at
form_of-requires c = let a = c.args in
    let l = c.loop-k in
    let f = fine a.tables c.structure_at.result (right c) in
    let known = c.type_inv.s in
    omega (
      arith,
      f.most,
      f.within,
      f.rest,
      ap (λ (d : Structure). d.base) c.structure_at.ensures,
      known (c.args.o + 9 * l.k + 3),
      known (c.args.o + 9 * l.k + 3 + 1),
    )

pub put_form-requires : goal.put_form-requires
put_form-requires c = let tables = c.args.tables in
    let fit = form_fine tables c.structure_at.result (omega arith) (right (goal.at.put_form-requires c).After-structure_at) in
    let room = form_room {f = c.form_of.result} (rw c.form_of.ensures fit) in
    record { tab_len = (omega arith, omega arith); prefix_bound = room.0; lo_bound = room.1 }

pub loop-k-preserved : goal.loop-k-preserved
loop-k-preserved c =
    let l = c.loop-k in
    upto_turn c.form_of.result c.put_form.new.tab l.invariant (omega (arith, c)) (omega (arith, c))
    (c.form_of.ensures ∙ ap form_of (next (goal.at.loop-k-preserved c).After-structure_at))
    (search rules)
    c.put_form.ensures

pub returns : goal.returns
returns c = let a = c.args in
    let l = c.loop-k in
    upto_end a.tab.now a.t a.n l.k l.invariant (omega (arith, length_structures_at a.s.now a.o a.n))
