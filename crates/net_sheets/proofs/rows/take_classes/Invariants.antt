use Rattle.std.proofs.Common.{◌≡◌, ◌≤◌, ◌-◌, take, length}
use Rattle.net_sheets.specs.Tables.{class_routes}
use Rattle.net_sheets.proofs.rows.take_classes.Given as goal

abbrev pub invariant-loop-count : goal.invariant-loop-count
invariant-loop-count l = record {
  within : l.count ≤ length l.routes;
  classes : class_routes l.dest l.point 1 l.classes.items ≡ take l.count l.routes;
}

abbrev pub decreases-loop-count : goal.decreases-loop-count
decreases-loop-count l = length l.routes - l.count
