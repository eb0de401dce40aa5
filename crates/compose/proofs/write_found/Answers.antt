-- Section 6 is put in its place.
use Prim.Native.Nat.{◌≤◌}
use mathlib.Core.Path.{◌≡◌, sym, ◌∙◌}
use native.Mathlib.Omega.{arith}
use borrow.Rule.Slice.PartMut.{mid_len, drop_put}
use lib.ListN.{length, take}
use lib.Seq.{length-take-le}
use Rattle.layout.proofs.Filled.{put_inside}
use Rattle.compose.specs.InnerJob.{size_with}
use Rattle.compose.proofs.Outcomes.{nothing_refused}
use Rattle.compose.proofs.Lengths.{size_parts}
use Rattle.compose.proofs.write_found.Goals as goal

pub returns : goal.returns
returns c =
    let a = c.args in
    let s = c.size_streams in
    let w = c.write_streams in
    let from = c.front_size-from.result in
    let to = c.in_ok-bytes.bytes in
    let size = c.in_ok-bytes.ensures.size in
    let sizes = take (length a.job.now.counts.now) s.new.sizes in
    let long : length sizes ≡ length a.job.now.counts.now =
    length-take-le (length a.job.now.counts.now) s.new.sizes (omega (arith, s.auto.sizes, c.requires.counts_len_bound.0)) in
    let room = nothing_refused 0 (size_with (length a.job.now.section1.now) (length a.job.now.section2.now) sizes) (length a.out.now)
    (sym c.in_ok-bytes.ensures.refusal) in
    let parts = size_parts (length a.job.now.section1.now) (length a.job.now.section2.now) (length a.job.now.counts.now) sizes long in
    let begins : from ≤ to = omega (arith, parts, c.front_size-from.ensures.0, size) in
    let ends : to ≤ length a.out.now = omega (arith, size, room.2) in
    let whole = w.auto.part ∙ mid_len from to a.out.now ends in (
      record {
        sizes = sizes;
        number = 0;
        each = long;
        sized = c.in_ok-size_streams.ensures.0;
        answer = c.in_ok-bytes.ensures.refusal;
        same = tt;
        put = (
          size,
          (
            drop_put from to a.out.now w.new.part begins ends whole,
            λ streams found.
                rw (← c.front_size-from.ensures.0) (put_inside a.out.now w.new.part from to begins ends whole)
                ∙ w.ensures.0 streams found,
          ),
        );
      },
      λ z. w.ensures.1 z ∙ c.in_ok-size_streams.ensures.1 z,
    )
