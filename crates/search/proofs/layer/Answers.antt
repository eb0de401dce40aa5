-- The value's structures and what they cost, then switches until none makes a cost smaller, then the choices: the law of a layer joins
-- these.
use Prim.Native.Nat.{◌-◌, ◌≤◌}
use mathlib.Core.Path.{◌∙◌}
use native.Mathlib.Omega.{arith}
use lib.ListN.{get_or}
use Rattle.search.specs.InnerSearch.{at}
use Rattle.search.proofs.OneLayer.{layer_holds, place_valued, settled_first, picked_first}
use Rattle.search.proofs.layer.Goals as goal

pub mark-requires : goal.mark-requires
mark-requires c = let p = c.requires in
    let a = c.args in
    let w = c.values-first in (
      p.0,
      w.auto.marks ∙ p.2,
      λ t g h.
          place_valued p.0.1 a.next.now a.v t (get_or w.new.marks (t - 1) 0) (at w.result t)
          (omega (arith, p.0.1.most, p.0.2)) (w.ensures.0 p.0.0 p.0.1 t g (omega arith)),
    )

pub returns-then-any : goal.returns-then-any
returns-then-any c = let a = c.args in
    let w = c.values-first in
    let s = c.settle-cur in
    let m = c.mark in (
      λ tables vs ready e x.
          layer_holds ready a.n a.v vs a.next.now w.new.marks w.result s.result m.new.marks e x
          (w.ensures.0 tables ready) s.ensures m.ensures,
      (s.ensures.nine, λ t h. omega (arith, s.ensures.less t h, w.ensures.1.1 t h)),
      w.ensures.2,
    )

pub returns : goal.returns
returns c = let p = c.requires in
    let a = c.args in
    let w = c.values-first in
    let marks = w.new.marks in
    let few : a.n ≤ 8 = omega (arith, p.0.1.most, p.0.2) in
    let none = p.3 c.if-any.false in (
      λ tables vs ready e x.
          layer_holds ready a.n a.v vs a.next.now marks w.result w.result marks e x (w.ensures.0 tables ready)
          (settled_first a.tab.now a.n w.result few w.ensures.1 none)
          (λ t g h.
          picked_first a.tab.now a.n w.result few w.ensures.1 none t (get_or marks (t - 1) 0) g h
          (place_valued ready a.next.now a.v t (get_or marks (t - 1) 0) (at w.result t) (omega arith)
          (w.ensures.0 tables ready t g (omega arith)))),
      w.ensures.1,
      w.ensures.2,
    )
