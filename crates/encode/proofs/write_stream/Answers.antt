-- The result of the search decides.
use mathlib.Core.Path.{sym}
use native.Mathlib.Omega.{arith}
use lib.ListN.{length}
use Rattle.samples.specs.Differences.{differences}
use Rattle.encode.proofs.Found.{fits_found, written_put}
use Rattle.encode.proofs.write_stream.Goals as goal

-- the stream is short enough, and has room
pub put_stream-requires-clause-compiled_or_none_count : goal.put_stream-requires-clause-compiled_or_none_count
put_stream-requires-clause-compiled_or_none_count c =
    let h = c.requires.0 in
    let s = c.stream_bits-bits in
    let w = (s.ensures.0 h.0 h.1 h.2).0 in
    let few = fits_found s.result (length c.args.out.now) w.0 w.2 (sym (c.in_ok-judge_found.ensures w.0 w.2)) in
    (h, omega (arith, c.requires.2, s.auto.work), few.0, few.1)

pub returns : goal.returns
returns c =
    let s = c.stream_bits-bits in
    let a = c.args in (
      λ tables held many.
          written_put tables (differences a.order a.xs.now) a.out.now _ s.result (s.ensures.0 tables held many).0 c.in_ok-judge_found.ensures
          (c.put_stream.ensures tables held many),
      s.ensures.1,
    )
