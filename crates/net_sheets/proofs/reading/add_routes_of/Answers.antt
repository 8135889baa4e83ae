use Rattle.std.proofs.Common.{refl, Ok}
use Rattle.std.proofs.lemmas.Result.{err_from_is_err_and}
use Rattle.net_sheets.specs.Tables.{routes_header}
use Rattle.net_sheets.specs.Values.{route_of}
use Rattle.net_sheets.proofs.ReadingLemmas.{where_ok, values_told, routes_added}
use Rattle.net_sheets.specs.Faults.{IsRoutesFault}
use Rattle.net_sheets.proofs.FaultLemmas.{where_err, field_told, routes_fault}
use Rattle.net_sheets.proofs.reading.add_routes_of.Goals as goal

pub returns-clause-ok : goal.returns-clause-ok
returns-clause-ok c =
    let told = values_told route_of _ routes_header c.args.text.now c.in_ok-table.table.items c.deref.result.now (Ok c.in_ok-routes.routes.items) c.deref.ensures.value (rw (c.as_slice.ensures, c.as_slice-2.ensures, c.as_slice-3.ensures, c.as_slice-4.ensures) refl) c.in_ok-table.ensures.table c.in_ok-routes.ensures.ok in
    where_ok c.add_plans.result _ _ (routes_added c.args.net.now c.add_plans.new.net c.args.bare.items c.args.text.now c.in_ok-routes.routes.items _ told c.as_slice-5.ensures.value) c.add_plans.ensures.ok

pub returns-in_err-routes-clause-err : goal.returns-in_err-routes-clause-err
returns-in_err-routes-clause-err c =
    let told = values_told route_of _ routes_header c.args.text.now c.in_ok-table.table.items c.deref.result.now _ c.deref.ensures.value (rw (c.as_slice.ensures, c.as_slice-2.ensures, c.as_slice-3.ensures, c.as_slice-4.ensures) refl) c.in_ok-table.ensures.table refl in
    let p = err_from_is_err_and c.from_residual-in_err-routes.result c.from_residual-in_err-routes.ensures.1 in
    rw (p.1, p.2) (field_told route_of routes_header (IsRoutesFault c.args.net.now c.args.bare.items) c.args.text.now _ _ told c.in_err-routes.ensures.err)

pub returns-clause-err : goal.returns-clause-err
returns-clause-err c =
    let told = values_told route_of _ routes_header c.args.text.now c.in_ok-table.table.items c.deref.result.now (Ok c.in_ok-routes.routes.items) c.deref.ensures.value (rw (c.as_slice.ensures, c.as_slice-2.ensures, c.as_slice-3.ensures, c.as_slice-4.ensures) refl) c.in_ok-table.ensures.table c.in_ok-routes.ensures.ok in
    where_err c.add_plans.result _ _ (routes_fault c.args.net.now c.args.bare.items c.args.text.now c.in_ok-routes.routes.items _ told c.as_slice-5.ensures.value) c.add_plans.ensures.err
