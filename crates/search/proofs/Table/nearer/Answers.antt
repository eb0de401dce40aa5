-- By the tests: the first, a shorter code, a longer one, one as long.
use mathlib.Core.Logic.{inr, ⊎_elim}
use native.Mathlib.Omega.{arith}
use Rattle.search.proofs.Served.{served_shorter, served_longer, served_equal}
use Rattle.search.proofs.Table.nearer.Goals as goal

pub returns-then-a-b : goal.returns-then-a-b
returns-then-a-b c = let p = c.requires in
    let a = c.args in
    let n = c.if-best-eq-NONE.false in
    let hb = ⊎_elim (λ e. absurd (n e)) (λ l. l) p.1 in (
      λ tables x ready e s.
          served_shorter ready a.self.t a.self.one_of_eight a.k a.best x p.0 e s n hb
          (omega (arith, c.bits-a.ensures.0, c.bits-b.ensures.0)),
      inr p.0,
    )

pub returns-then-b-a : goal.returns-then-b-a
returns-then-b-a c = let p = c.requires in
    let a = c.args in
    let n = c.if-best-eq-NONE.false in
    let hb = ⊎_elim (λ e. absurd (n e)) (λ l. l) p.1 in (
      λ tables x ready e s.
          served_longer ready a.self.t a.self.one_of_eight a.k a.best x p.0 e s n hb
          (omega (arith, c.bits-a.ensures.0, c.bits-b.ensures.0)),
      inr hb,
    )

pub returns : goal.returns
returns c = let p = c.requires in
    let a = c.args in
    let n = c.if-best-eq-NONE.false in
    let hb = ⊎_elim (λ e. absurd (n e)) (λ l. l) p.1 in
    let one = c.bits-a.ensures.0 in
    let two = c.bits-b.ensures.0 in (
      λ tables x ready e s.
          served_equal ready a.self.t a.self.one_of_eight a.k a.best x p.0 e s n hb c.smaller.result
          (omega arith) c.smaller.ensures,
      inr c.smaller.ensures.there,
    )
