-- No more bytes are read than the buffer has.
use Rattle.std.proofs.Common.{◌≤◌, length}
use Rattle.damage.proofs.read_into.Given as goal

abbrev pub invariant-loop : goal.invariant-loop
invariant-loop l = l.n ≤ length l.buffer
