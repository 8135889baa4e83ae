use Rattle.net_sheets.specs.About.{entry_of}
use Rattle.net_sheets.proofs.ValueLemmas.{value_more, fault_told}
use Rattle.net_sheets.proofs.about.read_entries.Goals as goal

pub loop-i-preserved : goal.loop-i-preserved
loop-i-preserved c = value_more entry_of c.args.table.now c.loop-i.i c.index-table-i.result c.loop-i.entries.items _ c.in-Ok.entry _ c.loop-i-test.true c.index-table-i.is c.in-Ok.ensures c.in_ok-push-in-Ok.ensures c.loop-i.invariant

pub returns-in-Err-clause-err : goal.returns-in-Err-clause-err
returns-in-Err-clause-err c =
    fault_told entry_of c.args.table.now c.loop-i.i c.index-table-i.result c.loop-i.entries.items c.in-Err.flaw _ _ c.loop-i-test.true c.index-table-i.is c.in-Err.ensures c.loop-i.invariant c.flaw_fault.ensures
