-- The head, the streams behind it and the spare byte are the section’s data.
use Prim.Native.Nat.{◌+◌, ◌-◌, ◌*◌}
use mathlib.Core.Path.{◌≡◌, refl, ap, ◌∙◌}
use native.Mathlib.Omega.{arith}
use lib.ListN.{length}
use borrow.Rule.Slice.PartMut.{put_mid, same_len_mid}
use Rattle.layout.specs.Layout.{streams_data}
use Rattle.layout.proofs.Record.{section6_put}
use Rattle.compose.specs.Writing.{total}
use Rattle.compose.proofs.Streams.{sizes_streams}
use Rattle.compose.proofs.Lengths.{total_joined, section6_size}
use Rattle.compose.proofs.write_streams.Goals as goal

pub returns : goal.returns
returns c =
    let a = c.args in
    let p = c.requires in
    let t = c.total_of in
    let h = c.write_streams_head in
    let b = c.put_streams in
    let s = c.put_spare in
    let from = 22 + 2 * length a.sizes.now in
    let x = h.new.part in
    let zs = b.new.part in
    let y = put_mid from (from + t.result - from) x zs in
    let z = s.new.part in
    let long : length y ≡ length a.part.now = same_len_mid from (from + t.result - from) x zs b.auto.part
    ∙ h.auto.part in (
      λ streams found.
          let are = sizes_streams p.counts_len_bound.3 found in
          let size = section6_size a.job.now.head.step a.job.now.head.interval a.job.now.head.order a.sizes.now streams are p.counts_len_bound.4 in
          let put = b.ensures.0 streams found in
          let stop : from + t.result ≡ from + length zs = omega (arith, t.ensures.0, ap total are, total_joined streams, ap length put) in
          let even = section6_put a.job.now.head.step a.job.now.head.interval a.job.now.head.order a.sizes.now streams are
          a.part.now x y z zs from (from + t.result) refl stop size h.ensures refl put long s.ensures in
          c.seal.ensures.by_index (streams_data a.job.now.head.step a.job.now.head.interval a.job.now.head.order streams) even
          (s.auto.part ∙ long ∙ size),
      b.ensures.1,
    )
