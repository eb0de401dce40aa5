-- At every turn the bits still to come decide, since those passed are the same in both; a prefix that has none left begins the other.
use mathlib.Core.Path.{◌≡◌}
use Prim.Native.Nat.{◌-◌}
use Rattle.tables.proofs.Laws.{bits_apart}
use Rattle.tables.proofs.is_apart.Given as goal

abbrev pub invariant-loop : goal.invariant-loop
invariant-loop l = bits_apart (l.fn.c.prefix - l.counter) (l.fn.d.prefix - l.counter) l.x l.y ≡ bits_apart l.fn.c.prefix l.fn.d.prefix l.fn.c.code l.fn.d.code
