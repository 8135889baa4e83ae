use Rattle.std.proofs.Common.{◌≡◌, length, map, take}
use Rattle.net_items.specs.declared.items.Point.{Point}
use Rattle.plan_rows.specs.Seen.{IsSeen}
use Rattle.plan_rows.proofs.seen.see_points.Given as goal

abbrev pub invariant-loop-point : goal.invariant-loop-point
invariant-loop-point l = record { long : length l.seen ≡ 16384; seen : IsSeen l.seen (map (λ (p : Point). p.code) (take l.point-index l.points)) }
