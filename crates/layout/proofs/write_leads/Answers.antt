-- Number of leads, flags and entries are put one after another, then the spare byte (`spare_put`); header and check are put around them.
use Prim.Native.Nat.{◌+◌, ◌-◌, ◌*◌, ◌%◌}
use mathlib.Core.Path.{◌≡◌, refl, ◌∙◌}
use native.Mathlib.Omega.{arith}
use lib.ListN.{length, length-set}
use Rattle.layout.specs.Layout.{entries_of, leads_data}
use Rattle.layout.proofs.Filled.{filled_from, filled_put, filled_store}
use Rattle.layout.proofs.Laws.{spare_put, length_entries_of, length_leads_data}
use Rattle.layout.proofs.write_leads.Goals as goal

pub returns : goal.returns
unfolding leads_data
returns c =
    let a = c.args in
    let fs = a.firsts.now in
    let cs = a.counts.now in
    let is = a.ids.now in
    let n = length cs in
    let entries = length_entries_of fs cs is c.requires.firsts_len.0 c.requires.firsts_len.1 in
    let size = length_leads_data a.flags fs cs is c.requires.firsts_len.0 c.requires.firsts_len.1 in
    let same : length c.put_entries.new.part ≡ length c.args.part.now = c.put_entries.auto.part ∙ simp length-set in
    let f0 = filled_from a.part.now 16 (omega arith) in
    let f1 = filled_store n 17 f0 (omega arith) refl in
    let f2 = filled_store (a.flags - a.flags % 2) 18 f1 (simp length-set (omega arith)) refl in
    let f3 = filled_put (entries_of fs cs is) (9 * n) (18 + 9 * n) f2 entries refl c.put_entries.ensures in
    let contents = leads_data a.flags fs cs is in
    let evens = spare_put contents f3 (rw size (omega arith)) c.put_spare.ensures in
    c.seal.ensures.by_index contents evens (rw size (omega arith))
