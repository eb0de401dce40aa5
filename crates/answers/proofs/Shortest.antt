-- The third demand whole: for a lead and for a record. Assumes nothing.
use mathlib.Core.Path.{◌∙◌, sym}
use borrow.Author.Tests.{eqb-true}
use lib.ListN.{length}
use Rattle.compose.specs.Writing.{job_refusal}
use Rattle.answers.specs.Demands.{Demand3}
use Rattle.answers.proofs.Refusals.{writing_kept}
use Rattle.answers.proofs.Fewest.{asked, encoding}
use Rattle.answers.proofs.Written.{writes}

pub demand3 : Demand3
demand3 = record {
  encoding = λ s2 xs order work out a w o right least most fit two room e.
      encoding right (asked s2 (length xs) order (length work) right least most two room) fit e;
  writing = λ j work out a w o fits kept f.
      writes fits (eqb-true (job_refusal j (length work)) 0 (sym (writing_kept j (length work)) ∙ kept)) f;
}
