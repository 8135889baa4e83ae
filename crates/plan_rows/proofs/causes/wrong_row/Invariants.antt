use Rattle.std.proofs.Common.{◌≡◌, take, drop, [], map, length}
use Rattle.net_items.specs.declared.lists.Row.{Row}
use Rattle.plan_rows.specs.Causes.{wrong_row}
use Rattle.plan_rows.specs.Seen.{IsSeen}
use Rattle.plan_rows.proofs.causes.wrong_row.Given as goal

abbrev pub invariant-loop-position : goal.invariant-loop-position
invariant-loop-position l = record {
  around : l.around.sets ≡ l.sets;
  long : length l.seen ≡ 16384;
  seen : IsSeen l.seen (map (λ (r : Row). r.point) (take l.position l.rows));
  rest : wrong_row l.points l.sets l.fn.dest l.rows (take l.position l.rows) (drop l.position l.rows) ≡ wrong_row l.points l.sets l.fn.dest l.rows [] l.rows;
}
