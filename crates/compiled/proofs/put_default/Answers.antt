use mathlib.Core.Path.{◌≡◌, refl, sym, ap, ◌∙◌}
use mathlib.Core.Bool.{true}
use native.Mathlib.Omega.{arith}
use borrow.Author.Rules.{rules}
use lib.Dec.{ltb}
use lib.ListN.{length}
use borrow.Author.Tests.{ltb-true}
use Rattle.wire.specs.RuleWords.{every}
use Rattle.tables.specs.declared.Structure.{Structure}
use Rattle.tables.specs.Structures.{structure_right, no_structure}
use Rattle.tables.specs.Default.{default_table, two_values, valued}
use Rattle.wire.proofs.Every.{every_at}
use Rattle.tables.proofs.Laws.{fine, table_right_lem}
use Rattle.tables.proofs.Default.{default_right}
use Rattle.compiled.specs.InnerForm.{form_of}
use Rattle.compiled.proofs.Laws.{form_fine, form_room}
use Rattle.compiled.proofs.Putting.{upto_start, upto_turn, upto_end}
use Rattle.compiled.proofs.put_default.Goals as goal
use Rattle.compiled.proofs.put_default.Goals.{After-default_structure}

-- the table has 19 structures
nineteen : length default_table ≡ 19
unfolding default_table two_values
nineteen = refl

pub loop-k-init : goal.loop-k-init
loop-k-init c = upto_start default_table c.args.tab.now 0 19 (omega arith) (omega arith) (sym nineteen)

-- the structure that a turn takes is right
right : (c : After-default_structure) → structure_right 1 c.default_structure.result ≡ true
right c =
    let k = c.loop-k.k in
    let all = (table_right_lem 1 default_table default_right).right in
    rw c.default_structure.ensures (every_at (structure_right 1) no_structure default_table all k (omega (arith, nineteen)))

-- and its base value has two bytes
small : (c : After-default_structure) → ltb c.default_structure.result.base 65536 ≡ true
unfolding every default_table two_values valued
small c =
    let k = c.loop-k.k in
    rw c.default_structure.ensures
    (every_at (λ (d : Structure). ltb d.base 65536) no_structure default_table refl k (omega arith))

pub form_of-requires : goal.form_of-requires
form_of-requires c = let f = fine 1 c.default_structure.result (right c) in
    omega (arith, f.most, f.within, f.rest, ltb-true c.default_structure.result.base 65536 (small c))

pub put_form-requires : goal.put_form-requires
put_form-requires c = let fit = form_fine 1 c.default_structure.result (omega arith) (right (goal.at.put_form-requires c).After-default_structure) in
    let room = form_room {f = c.form_of.result} (rw c.form_of.ensures fit) in
    record { tab_len = (omega arith, omega arith); prefix_bound = room.0; lo_bound = room.1 }

pub loop-k-preserved : goal.loop-k-preserved
loop-k-preserved c =
    let l = c.loop-k in
    upto_turn c.form_of.result c.put_form.new.tab l.invariant (omega arith) (omega (arith, c))
    (c.form_of.ensures ∙ ap form_of c.default_structure.ensures)
    (search rules)
    c.put_form.ensures

pub returns : goal.returns
returns c = let l = c.loop-k in
    (upto_end c.args.tab.now 0 19 l.k l.invariant (omega (arith, nineteen))).0
