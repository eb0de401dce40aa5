-- Either the default table alone is put, or the data's own tables, which are right; those behind get no structure (`ready`).
use Prim.Native.Nat.{◌+◌}
use mathlib.Core.Path.{◌≡◌, refl, sym, ◌∙◌}
use mathlib.Core.List.{[], ◌∷◌}
use native.Mathlib.Omega.{arith}
use borrow.Author.Rules.{rules}
use Rattle.wire.specs.RuleWords.{every}
use Rattle.tables.specs.Default.{default_table}
use Rattle.tables.specs.Section2.{tables_from, tables_in}
use Rattle.tables.proofs.Laws.{RightTables, length_tables, own_tables}
use Rattle.tables.proofs.Default.{default_right}
use Rattle.compiled.proofs.Putting.{default_two, tables_two, ready}
use Rattle.compiled.proofs.put_all.Goals as goal
use Rattle.compiled.proofs.put_all.Goals.{After-number16-n}

pub returns-then-is_default : goal.returns-then-is_default
unfolding tables_in every
returns-then-is_default c =
    rw (sym c.is_default.ensures ∙ c.if-is_default.true)
    (ready (default_table ∷ []) 1 c.put_default.new.tab c.put_none.new.tab refl (omega arith) (omega arith) (rw default_right)
    default_two
    (search rules)
    (λ t h. let z : t ≡ 0 = omega arith in rw z c.put_default.ensures)
    c.put_none.ensures)

-- data that are not the default table's have tables of their own, each right
own : (c : After-number16-n) →
    let a = c.args in
    RightTables a.s.now a.at
own c =
    let a = c.args in
    own_tables a.spare a.s.now a.at c.requires.1 (sym c.is_default.ensures ∙ c.if-is_default.false)

pub put_tables-requires : goal.put_tables-requires
put_tables-requires c =
    let r = own (goal.at.put_tables-requires c).After-number16-n in
    record { tab_len = (omega (arith, r.most), omega arith); n_value = rw c.number16-n.ensures.0 r.right }

pub put_none-requires-else-is_default : goal.put_none-requires-else-is_default
put_none-requires-else-is_default c =
    let r = own (goal.at.put_none-requires-else-is_default c).After-number16-n in
    omega (arith, r.most, c.number16-n.ensures.0)

pub returns-else-is_default : goal.returns-else-is_default
unfolding tables_in
returns-else-is_default c =
    let a = c.args in
    let n = c.number16-n.result in
    let e = c.number16-n.ensures.0 in
    let r = own (goal.at.returns-else-is_default c).After-number16-n in
    rw (r.own, sym e)
    (ready (tables_from a.s.now (a.at + 2) n) n c.put_tables.new.tab c.put_none-else-is_default.new.tab
    (length_tables a.s.now (a.at + 2) n)
    (omega (arith, r.some))
    (omega (arith, r.most))
    (rw e r.right)
    (tables_two a.s.now (λ i. (c.type_inv.s i).fits) (a.at + 2) n)
    (search rules)
    c.put_tables.ensures
    c.put_none-else-is_default.ensures)
