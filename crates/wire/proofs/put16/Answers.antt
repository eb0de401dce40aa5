-- The two stores put the two bytes of the number one after the other (`sets-eq`), and the rest stays.
use mathlib.Core.Path.{◌∙◌}
use mathlib.Core.List.{append_assoc}
use Prim.Native.Nat.{◌+◌}
use native.Mathlib.Numerals.{add-one}
use lib.ListN.{take, drop}
use lib.Seq.{sets-eq}
use Rattle.wire.specs.Numbers.{bytes_of}
use Rattle.wire.proofs.put16.Goals as goal

pub returns : goal.returns
unfolding bytes_of
returns c = let a = c.args in
    rw add-one
    (sets-eq (bytes_of 2 a.n) a.out.now a.at c.requires
    ∙ append_assoc (take a.at a.out.now) (bytes_of 2 a.n) (drop (a.at + 2) a.out.now))
