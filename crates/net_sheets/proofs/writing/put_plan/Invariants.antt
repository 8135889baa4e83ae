use Rattle.std.proofs.Common.{◌≡◌, ◌++◌, take, string_bytes}
use Rattle.std.specs.List.{flat_map}
use Rattle.net_sheets.specs.Tables.{line_text, route_record, row_routes}
use Rattle.net_sheets.proofs.writing.put_plan.Given as goal

abbrev pub invariant-loop-row : goal.invariant-loop-row
invariant-loop-row l = string_bytes l.text ≡ string_bytes l.fn.text ++ flat_map (λ r. line_text (route_record r)) (flat_map (row_routes l.plan.dest) (take l.row-index l.plan.rows))
