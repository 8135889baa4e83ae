use Rattle.std.proofs.Common.{refl}
use Rattle.net_sheets.proofs.RecordLemmas.{table_made}
use Rattle.net_sheets.proofs.records.read_table.Goals as goal

pub returns-in-None-clause-table : goal.returns-in-None-clause-table
returns-in-None-clause-table c =
    table_made c.args.header.now c.args.text.now c.in-Ok.table.items c.as_slice.result.now c.as_slice.ensures.value c.in-Ok.ensures.ok (c.in-None.ensures.header refl) (c.in-None.ensures.wide refl)
