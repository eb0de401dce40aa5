-- The prefix is put, then the remainder's bits.
use Prim.Native.Nat.{ℕ, ◌%◌}
use mathlib.Core.Path.{◌≡◌, sym, ap, ◌∙◌, subst}
use mathlib.Core.List.{List, ◌++◌, append_assoc}
use native.Mathlib.Omega.{arith}
use lib.IntN.{pos}
use lib.ListN.{get_or, take}
use Rattle.bits.specs.Bits.{high_first, bits_in}
use Rattle.samples.specs.Differences.{differences}
use Rattle.packing.specs.InnerSink.{Holds}
use Rattle.shortest.specs.InnerRule.{twos}
use Rattle.shortest.proofs.Forms.{twos_lower}
use Rattle.encode.proofs.Steps.{code_prefix, holds_some, rest_on}
use Rattle.encode.proofs.put_code.Goals as goal
use Rattle.encode.proofs.put_code.Goals.{After-put-p}

-- what is held behind the prefix
held : (c : After-put-p) → let a = c.args in
    Holds c.put-p.new.out c.put-p.result
    ((bits_in (take a.sink.at a.out.now) ++ high_first a.sink.part a.sink.acc) ++ high_first a.f.prefix a.f.word)
held c =
    let a = c.args in
    c.put-p.ensures.0 _ (holds_some a.out.now a.sink (omega (arith, c.requires.room)))

pub returns-then-f-eq0 : goal.returns-then-f-eq0
returns-then-f-eq0 c = let p = c.put-p in
    let a = c.args in
    (λ bs h. rw (code_prefix a.f (get_or (differences a.order a.xs.now) a.i (pos 0)) c.if-f-eq0.true) (p.ensures.0 bs h), p.ensures.1, p.ensures.2)

pub returns : goal.returns
returns c =
    let p = c.put-p in
    let q = c.put in
    let power = c.power in
    let value = c.value_at-v in
    let a = c.args in
    let r = a.f.remainder in
    let v = get_or (differences a.order a.xs.now) a.i (pos 0) in
    let own : value.result % power.result ≡ twos r v =
    rw power.ensures (sym (twos_lower r value.result (omega (arith, c.requires.prefix_bound.1))) ∙ ap (twos r) value.ensures.0) in (
      λ bs h.
          subst (λ (l : List ℕ). Holds q.new.out q.result l)
          (append_assoc bs (high_first a.f.prefix a.f.word) (high_first r (twos r v)))
          (rw own at (q.ensures.0 _ (p.ensures.0 bs h))),
      q.ensures.1 ∙ p.ensures.1,
      rest_on a.out.now p.new.out q.new.out p.result q.result _ _ (held (goal.at.returns c).After-put-p)
          (q.ensures.0 _ (held (goal.at.returns c).After-put-p)) p.ensures.2
          q.ensures.2,
    )
