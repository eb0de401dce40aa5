-- There are no numbers, and a value is two bytes; or they say the tables, by which it is read.
use mathlib.Core.Path.{sym, ◌∙◌}
use native.Mathlib.Nat.{add-zero}
use lib.ListN.{drop}
use borrow.Author.Tests.{eqb-true, eqb-false}
use Rattle.bits.specs.Bits.{bits_in}
use Rattle.compiled.proofs.Laws.{held_ready}
use Rattle.reading.proofs.Laws.{next_coded, compared_coded_lem}
use Rattle.reading.proofs.Cursors.{next_plain}
use Rattle.reading.proofs.Cursor.value.Goals as goal

pub returns-then-is_empty : goal.returns-then-is_empty
returns-then-is_empty c = let a = c.args in
    let bs = drop a.self.at (bits_in a.s.now) in
    let empty = eqb-true _ _ (sym c.is_empty.ensures ∙ c.if-is_empty.true) in record {
      told = λ tables held. c.plain.ensures.told ∙ sym (next_plain tables a.tab.now held empty a.self.table bs).0;
      onward = c.plain.ensures.onward;
      summed = λ tables held.
          let none = (next_plain tables a.tab.now held empty a.self.table bs).1 in
          rw (none, add-zero a.self.compared) c.plain.ensures.summed;
    }

pub returns-else-is_empty : goal.returns-else-is_empty
returns-else-is_empty c = let a = c.args in
    let bs = drop a.self.at (bits_in a.s.now) in
    let some = eqb-false _ _ (sym c.is_empty.ensures ∙ c.if-is_empty.false) in record {
      told = λ tables held.
          let ready = held_ready tables a.tab.now held some in
          c.coded.ensures.told tables ready ∙ sym (next_coded tables ready.some a.self.table bs);
      onward = c.coded.ensures.onward;
      summed = λ tables held.
          let ready = held_ready tables a.tab.now held some in
          rw (compared_coded_lem tables ready.some a.self.table bs) (c.coded.ensures.summed tables ready);
    }
