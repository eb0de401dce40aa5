-- The first refusal that applies, with nothing else; else the record.
use mathlib.Core.Path.{sym}
use native.Mathlib.Omega.{arith}
use lib.ListN.{length}
use lib.Seq.{length-take-le}
use Rattle.std.proofs.lemmas.Result.{err_from_is_err_and}
use Rattle.compose.specs.InnerJob.{lent}
use Rattle.compose.proofs.Laws.{job_sound, job_listed}
use Rattle.compose.proofs.Outcomes.{wrote_refused, wrote_judged, wrote_put, put_room}
use Rattle.compose.proofs.write.Goals as goal

pub returns-in_err-judge_job : goal.returns-in_err-judge_job
returns-in_err-judge_job c = let p = err_from_is_err_and c.from_residual.result c.from_residual.ensures.1 in
    rw (p.1, p.2) (wrote_refused (lent c.args.job.now) c.args.work.now c.args.out.now _ c.in_err-judge_job.ensures)

pub write_by-requires : goal.write_by-requires
write_by-requires c = job_sound (lent c.args.job.now) (length c.args.work.now) (sym c.in_ok-judge_job.ensures)

pub returns-in_err-bytes : goal.returns-in_err-bytes
returns-in_err-bytes c = let p = err_from_is_err_and c.from_residual-in_err-bytes.result c.from_residual-in_err-bytes.ensures.1 in
    let w = c.write_by in
    rw (p.1, p.2) (wrote_judged (lent c.args.job.now) c.args.work.now c.args.out.now (sym c.in_ok-judge_job.ensures) w.new.work
    c.in_err-bytes.ensures.1 w.new.out _ c.in_err-bytes.ensures.0)

pub write_front-requires : goal.write_front-requires
write_front-requires c =
    let a = c.args in
    let w = c.write_by in
    let asked = sym c.in_ok-judge_job.ensures in
    let p = put_room (lent a.job.now) a.work.now a.out.now asked w.new.work c.in_ok-bytes.ensures.1 w.new.out c.in_ok-bytes.bytes c.in_ok-bytes.ensures.0 in
    let n = length-take-le c.in_ok-bytes.bytes w.new.out (rw w.auto.out p.2) in
    (job_listed (lent a.job.now) (length a.work.now) asked, omega (arith, n, p.1), omega (arith, n, p.0))

pub returns : goal.returns
returns c =
    let a = c.args in
    let w = c.write_by in
    wrote_put (lent a.job.now) a.work.now a.out.now (sym c.in_ok-judge_job.ensures) w.new.work c.in_ok-bytes.ensures.1 w.new.out
    c.in_ok-bytes.bytes c.in_ok-bytes.ensures.0 c.write_front.new.out c.write_front.ensures
