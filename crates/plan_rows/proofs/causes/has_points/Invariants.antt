use Rattle.std.proofs.Common.{◌≡◌, length, map, take, true}
use Rattle.std.specs.List.{list_all}
use Rattle.net_items.specs.declared.items.Point.{Point}
use Rattle.net_items.specs.declared.lists.Row.{Row}
use Rattle.net_items.specs.Lookups.{has_point}
use Rattle.plan_rows.specs.Seen.{IsSeen}
use Rattle.plan_rows.proofs.causes.has_points.Given as goal

abbrev pub invariant-loop-row : goal.invariant-loop-row
invariant-loop-row l = record {
  long : length l.seen ≡ 16384;
  seen : IsSeen l.seen (map (λ (p : Point). p.code) l.points);
  there : list_all (λ (r : Row). has_point l.points r.point) (take l.row-index l.rows) ≡ true;
}
