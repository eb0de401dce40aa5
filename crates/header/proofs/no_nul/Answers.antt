-- Of no bytes none is NUL; a byte that is not there is; where all are there, they are looked through.
use mathlib.Core.Path.{sym, ap, ◌∙◌}
use mathlib.Core.Bool.{not}
use borrow.Author.Tests.{le-leb, lt-leb}
use Rattle.wire.proofs.Laws.{all_end}
use Rattle.header.proofs.Free.{looked, missing}
use Rattle.header.proofs.no_nul.Goals as goal

pub returns-then-to-from : goal.returns-then-to-from
returns-then-to-from c = le-leb _ _ c.if-to-from.true ∙ sym (all_end _ _ _ c.if-to-from.true)

pub returns-then-to-s : goal.returns-then-to-s
returns-then-to-s c = ap not c.contains.ensures.value ∙ looked _ _ _ c.if-to-s.true

pub returns-else-to-s : goal.returns-else-to-s
returns-else-to-s c = lt-leb _ _ c.if-to-s.false ∙ sym (missing _ _ _ c.if-to-from.false c.if-to-s.false)
