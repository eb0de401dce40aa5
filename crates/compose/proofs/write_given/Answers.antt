-- Empty data have no section.
use mathlib.Core.Path.{◌∙◌}
use Rattle.layout.proofs.Laws.{given_none, given_some}
use Rattle.compose.proofs.write_given.Goals as goal

pub returns-then-section2-ne0 : goal.returns-then-section2-ne0
returns-then-section2-ne0 c = c.write_section.ensures ∙ given_some c.args.version c.args.section2.now c.if-section2-ne0.true

pub returns-else-section2-ne0 : goal.returns-else-section2-ne0
returns-else-section2-ne0 c = given_none c.args.version c.args.section2.now c.if-section2-ne0.false c.args.part.now c.requires
