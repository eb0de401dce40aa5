-- A right date has room in its bits, and so has an identifier's length.
use mathlib.Core.Path.{ap}
use native.Mathlib.Omega.{arith}
use lib.ListN.{length}
use Rattle.filing.proofs.Laws.{identifier_room, date_room}
use Rattle.filing.proofs.judge_adding.Goals as goal

pub invariant_of-entry : goal.invariant_of-entry
invariant_of-entry c =
    let opened = c.in_ok-opened.opened in
    let few = ap length c.identifier_of.ensures in
    let room = identifier_room opened.bytes.now opened.opens in
    let date = date_room c.from.result c.from-2.result c.date_right.result c.in_ok-unless-3.ensures c.date_right.ensures in record {
      identifier_fits = omega (arith, few, room);
      month_fits = omega (arith, c.from.ensures, date.0);
      day_fits = omega (arith, c.from-2.ensures, date.1);
    }
