use Rattle.net_sheets.specs.Values.{route_of}
use Rattle.net_sheets.proofs.ValueLemmas.{value_more, fault_told}
use Rattle.net_sheets.proofs.values.read_routes.Goals as goal

pub loop-i-preserved : goal.loop-i-preserved
loop-i-preserved c = value_more route_of c.args.table.now c.loop-i.i c.index-table-i.result c.loop-i.routes.items _ c.in-Ok.route _ c.loop-i-test.true c.index-table-i.is c.in-Ok.ensures c.in_ok-push-in-Ok.ensures c.loop-i.invariant

pub returns-in-Err-clause-err : goal.returns-in-Err-clause-err
returns-in-Err-clause-err c =
    fault_told route_of c.args.table.now c.loop-i.i c.index-table-i.result c.loop-i.routes.items c.in-Err.flaw _ _ c.loop-i-test.true c.index-table-i.is c.in-Err.ensures c.loop-i.invariant c.flaw_fault.ensures
