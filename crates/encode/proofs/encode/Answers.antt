-- What is asked may be refused; else the search's result decides.
use Prim.Native.Nat.{◌*◌, ◌≤◌}
use mathlib.Core.Path.{◌≡◌, sym}
use mathlib.Core.Bool.{true}
use lib.ListN.{length}
use Rattle.std.proofs.lemmas.Result.{err_from_is_err_and}
use Rattle.encode.specs.Encoding.{tables_given, tables_given_right}
use Rattle.encode.specs.InnerEncode.{coded_in}
use Rattle.encode.proofs.Asked.{asked_none, encoded_refused, encoded_answered}
use Rattle.encode.proofs.encode.Goals as goal
use Rattle.encode.proofs.encode.Goals.{After-hold-tab}

-- nothing is refused
asked : (c : After-hold-tab) → let a = c.args in
    (length a.xs.now ≤ 65536) × (tables_given_right a.section2.now ≡ true)
    × (length a.xs.now * length (tables_given a.section2.now) ≤ length a.work.now)
asked c =
    let a = c.args in
    asked_none a.section2.now (length a.xs.now) a.order (length a.work.now) (sym c.in_ok-judge_asked.ensures)

pub returns-in_err-judge_asked : goal.returns-in_err-judge_asked
returns-in_err-judge_asked c =
    let a = c.args in
    let e = c.in_err-judge_asked in
    let p = err_from_is_err_and c.from_residual.result c.from_residual.ensures.1 in
    rw (p.1, p.2) (encoded_refused a.section2.now a.xs.now a.order a.work.now a.out.now e.field-0.0 e.ensures)

pub hold-tab-requires : goal.hold-tab-requires
hold-tab-requires c = (asked_none _ _ _ _ (sym c.in_ok-judge_asked.ensures)).1

pub table_count-requires : goal.table_count-requires
table_count-requires c = (asked c).1

pub encode_by-requires : goal.encode_by-requires
encode_by-requires c =
    let w = asked (goal.at.encode_by-requires c).After-hold-tab in
    let t = c.table_count.ensures.0 in
    ((tables_given c.args.section2.now, c.hold-tab.ensures.tables, sym t), w.0, rw t w.2)

pub returns : goal.returns
returns c =
    let a = c.args in
    let r = c.encode_by in
    let t = c.table_count.ensures.0 in
    encoded_answered a.section2.now a.xs.now a.order a.work.now a.out.now (coded_in r.result) _ _ _ (sym c.in_ok-judge_asked.ensures)
    (r.ensures.0 (tables_given a.section2.now) c.hold-tab.ensures.tables (sym t)) c.hold-tab.ensures.count r.ensures.1
