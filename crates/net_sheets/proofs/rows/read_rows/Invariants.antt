use Rattle.std.proofs.Common.{◌≡◌, ◌<◌, ◌≤◌, ◌-◌, ◌++◌, take, length}
use Rattle.std.specs.List.{flat_map}
use Rattle.net_sheets.specs.Tables.{row_routes}
use Rattle.net_sheets.proofs.rows.read_rows.Given as goal

abbrev pub invariant-loop-at : goal.invariant-loop-at
invariant-loop-at l = record {
  after : l.start ≤ l.at;
  within : l.at ≤ length l.routes;
  some : l.start < l.at → 0 < length l.rows.items;
  rows : take l.start l.routes ++ flat_map (row_routes l.dest) l.rows.items ≡ take l.at l.routes;
}

abbrev pub decreases-loop-at : goal.decreases-loop-at
decreases-loop-at l = length l.routes - l.at
