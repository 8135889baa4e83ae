use Rattle.std.proofs.Common.{refl, Ok}
use Rattle.std.proofs.lemmas.Result.{err_from_is_err_and}
use Rattle.net_sheets.specs.Tables.{points_header}
use Rattle.net_sheets.specs.Values.{point_of}
use Rattle.net_sheets.proofs.ReadingLemmas.{where_ok, values_told, points_added}
use Rattle.net_sheets.proofs.FaultLemmas.{where_err, points_refused, pairs_refused}
use Rattle.net_sheets.proofs.reading.add_points_of.Goals as goal

pub returns-clause-ok : goal.returns-clause-ok
returns-clause-ok c =
    let told = values_told point_of _ points_header c.args.text.now c.in_ok-table.table.items c.deref.result.now (Ok c.in_ok-points.points.items) c.deref.ensures.value (rw (c.as_slice.ensures, c.as_slice-2.ensures, c.as_slice-3.ensures) refl) c.in_ok-table.ensures.table c.in_ok-points.ensures.ok in
    where_ok c.pair_points.result _ _ (λ second. points_added c.args.net.now c.add_points.new.net c.pair_points.new.net c.args.text.now c.in_ok-points.points.items _ _ told c.as_slice-4.ensures.value c.as_slice-5.ensures.value
    c.in_ok-add_points.ensures.ok second) c.pair_points.ensures.ok

pub returns-in_err-add_points-clause-err : goal.returns-in_err-add_points-clause-err
returns-in_err-add_points-clause-err c =
    let told = values_told point_of _ points_header c.args.text.now c.in_ok-table.table.items c.deref.result.now (Ok c.in_ok-points.points.items) c.deref.ensures.value (rw (c.as_slice.ensures, c.as_slice-2.ensures, c.as_slice-3.ensures) refl) c.in_ok-table.ensures.table c.in_ok-points.ensures.ok in
    let p = err_from_is_err_and c.from_residual-in_err-add_points.result c.from_residual-in_err-add_points.ensures.1 in
    rw (p.1, p.2) (points_refused c.args.net.now c.args.text.now c.in_ok-points.points.items _ told c.as_slice-4.ensures.value _ c.in_err-add_points.ensures.err)

pub returns-clause-err : goal.returns-clause-err
returns-clause-err c =
    let told = values_told point_of _ points_header c.args.text.now c.in_ok-table.table.items c.deref.result.now (Ok c.in_ok-points.points.items) c.deref.ensures.value (rw (c.as_slice.ensures, c.as_slice-2.ensures, c.as_slice-3.ensures) refl) c.in_ok-table.ensures.table c.in_ok-points.ensures.ok in
    where_err c.pair_points.result _ _ (pairs_refused c.args.net.now c.add_points.new.net c.args.text.now c.in_ok-points.points.items _ _ told c.as_slice-4.ensures.value c.as_slice-5.ensures.value c.in_ok-add_points.ensures.ok) c.pair_points.ensures.err
