-- No numbers: two bytes a value. Else the way in the work space.
use lib.ListN.{length}
use Rattle.samples.specs.Differences.{differences}
use Rattle.samples.proofs.Laws.{length_differences}
use Rattle.encode.proofs.Plain.{plain_room, plain_packed}
use Rattle.encode.proofs.Found.{no_elements, held_none}
use Rattle.encode.proofs.put_stream.Goals as goal

pub put_plain-requires : goal.put_plain-requires
put_plain-requires c =
    let a = c.args in
    let h = c.requires.compiled_or_none_count.0 in
    let none = held_none h.0 a.tab.now h.1 (no_elements c.is_empty.ensures c.if-is_empty.true) in
    rw (length_differences a.order a.xs.now) at
    (plain_room h.0 (differences a.order a.xs.now) a.bits (length a.out.now) none c.requires.compiled_or_none_count.2
    (c.requires.sized h.0 h.1 h.2).0 c.requires.compiled_or_none_count.3)

pub returns-then-is_empty : goal.returns-then-is_empty
returns-then-is_empty c =
    let a = c.args in
    λ tables held many bs h.
    let none = held_none tables a.tab.now held (no_elements c.is_empty.ensures c.if-is_empty.true) in
    plain_packed tables (differences a.order a.xs.now) a.out.now _ bs none h
    (rw (length_differences a.order a.xs.now) c.put_plain.ensures)
