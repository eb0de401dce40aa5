use borrow.Author.Rules.{rules}
use Rattle.compiled.proofs.Putting.{ready_same}
use Rattle.compiled.proofs.compile.Goals as goal

pub loop-t-preserved : goal.loop-t-preserved
loop-t-preserved c =
    let l = c.loop-t in
    ready_same _ l.tab c.put_guesses.new.tab (search rules) c.put_guesses.ensures l.invariant
