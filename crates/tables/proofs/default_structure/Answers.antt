-- The constant is the table of the definition, entry by entry.
use mathlib.Core.Path.{refl}
use Rattle.tables.specs.Default.{default_table, two_values, valued, ones, code_of}
use Rattle.tables.proofs.default_structure.Goals as goal

pub returns : goal.returns
unfolding default_table two_values valued ones code_of
returns c = refl
