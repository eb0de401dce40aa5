use native.Mathlib.Omega.{arith}
use Rattle.encode.proofs.Steps.{going_start, next_sink, going_then, going_end}
use Rattle.encode.proofs.walk.Goals as goal

pub loop-gone-init : goal.loop-gone-init
loop-gone-init c =
    going_start c.args.out.now c.new.result c.requires.planned c.requires.compiled_count.2 (c.new.ensures c.args.out.now)

pub loop-gone-preserved : goal.loop-gone-preserved
loop-gone-preserved c = let q = c.run-gone.ensures in going_then c.requires.compiled_count.0 c.loop-gone.invariant q.0 q.1

pub end-requires : goal.end-requires
end-requires c =
    let l = c.loop-gone in
    let k = next_sink c.requires.compiled_count.0 l.invariant in
    omega (arith, k, c.requires.compiled_count.3, l.invariant.same)

pub returns : goal.returns
returns c = let e = c.end in
    going_end c.loop-gone.invariant (omega arith) e.new.out e.ensures.0
