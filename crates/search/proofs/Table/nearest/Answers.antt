use Prim.Native.Nat.{◌<◌}
use mathlib.Core.Path.{◌≡◌, sym, ◌∙◌}
use mathlib.Core.Bool.{true, false}
use mathlib.Core.List.{List}
use native.Mathlib.Omega.{arith}
use Rattle.bits.specs.InnerRaised.{from_zero}
use Rattle.tables.specs.declared.Structure.{Structure}
use Rattle.compiled.specs.InnerForm.{Compiled}
use Rattle.paths.specs.InnerPaths.{Kind, gives}
use Rattle.shortest.specs.InnerRule.{kind_of, structure_of}
use Rattle.search.specs.InnerSearch.{count_of}
use Rattle.search.proofs.Laws.{form_there, right_there, small_there}
use Rattle.search.proofs.Served.{served_skip}
use Rattle.search.proofs.Table.nearest.Goals as goal
use Rattle.search.proofs.Table.nearest.Goals.{then-serves, else-serves}

pub loop-k-preserved : goal.loop-k-preserved
loop-k-preserved c = let a = c.args in
    let l = c.loop-k in
    let h = a.self.one_of_eight in
    let hk : l.k < count_of a.self.numbers.now a.self.t = omega (arith, c.count-k-end.ensures.0) in
    let kind : List (List Structure) → Kind = λ tables. kind_of (structure_of tables a.self.t l.k) (from_zero 131072 a.v) in
    let told : (tables : List (List Structure)) → Compiled tables a.self.numbers.now
    → (c.serves.result ≡ true → kind tables ≡ gives) × (c.serves.result ≡ false → kind tables ≡ gives → ⊥) =
    λ tables ready.
    c.serves.ensures 8 (structure_of tables a.self.t l.k) (right_there ready a.self.t h l.k hk)
    (small_there ready a.self.t h l.k hk) (form_there ready a.self.t h l.k hk ∙ sym c.form.ensures.0) in record {
      place = elim c.if-serves.branch [ then-serves w ↦ rw w.best-is w.nearer-best.ensures.1 | else-serves w ↦ rw w.best-is l.invariant.place ];
      served = λ tables ready.
          elim c.if-serves.branch [
            | then-serves w ↦ rw w.best-is (w.nearer-best.ensures.0 tables a.v ready ((told tables ready).0 w.if-serves.true) (l.invariant.served tables ready))
            | else-serves w ↦ rw w.best-is (served_skip tables a.v a.self.t l.k l.best ((told tables ready).1 w.if-serves.false) (l.invariant.served tables ready))
          ];
    }
