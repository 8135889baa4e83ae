use Rattle.std.proofs.Common.{string_bytes, ◌∙◌}
use Rattle.net_sheets.specs.Tables.{points_header, point_record}
use Rattle.net_sheets.proofs.LineLemmas.{record_more, records_all}
use Rattle.net_sheets.proofs.writing.write_points.Goals as goal

pub loop-point-preserved : goal.loop-point-preserved
loop-point-preserved c =
    record_more points_header point_record c.args.net.now.points c.points-point-items.result.now c.loop-point.point-index _ c.point-item.result (string_bytes c.loop-point.text) _ _
    c.points-point-items.ensures c.loop-point-test.true c.point-item.is c.in_ok-push_str.ensures.bytes (c.as_str.ensures.value ∙ c.in_ok-line.ensures) c.loop-point.invariant

pub returns : goal.returns
returns c = records_all points_header point_record c.args.net.now.points c.points-point-items.result.now c.loop-point.point-index (string_bytes c.loop-point.text) c.points-point-items.ensures c.loop-point-test.false c.loop-point.invariant
