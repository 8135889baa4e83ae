use Rattle.std.proofs.Common.{◌≡◌, take, map, string_bytes}
use Rattle.net_sheets.specs.Tables.{points_header, table_text, point_record}
use Rattle.net_sheets.proofs.writing.write_points.Given as goal

abbrev pub invariant-loop-point : goal.invariant-loop-point
invariant-loop-point l = string_bytes l.text ≡ table_text points_header (map point_record (take l.point-index l.net.points))
