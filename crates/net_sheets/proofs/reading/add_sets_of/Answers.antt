use Rattle.std.proofs.Common.{refl, Ok}
use Rattle.net_sheets.specs.Tables.{sets_header}
use Rattle.net_sheets.specs.Values.{set_of}
use Rattle.net_sheets.proofs.ReadingLemmas.{where_ok, values_told, sets_added}
use Rattle.net_sheets.proofs.reading.add_sets_of.Goals as goal

pub returns-clause-ok : goal.returns-clause-ok
returns-clause-ok c =
    let told = values_told set_of _ sets_header c.args.text.now c.in_ok-table.table.items c.deref.result.now (Ok c.in_ok-sets.sets.items) c.deref.ensures.value (rw (c.as_slice.ensures, c.as_slice-2.ensures, c.as_slice-3.ensures, c.as_slice-4.ensures) refl) c.in_ok-table.ensures.table c.in_ok-sets.ensures.ok in
    where_ok c.add_sets.result _ _ (sets_added c.args.net.now c.add_sets.new.net c.args.text.now c.in_ok-sets.sets.items _ told c.as_slice-5.ensures.value) c.add_sets.ensures.ok
