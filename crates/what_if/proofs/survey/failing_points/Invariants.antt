use Rattle.std.proofs.Common.{◌≡◌, filter, map, take}
use Rattle.net_items.specs.declared.items.Point.{Point}
use Rattle.what_if.specs.Survey.{is_transfer}
use Rattle.what_if.specs.declared.survey.Single.TheVariants as single
use Rattle.what_if.proofs.survey.failing_points.Given as goal

-- those of the points so far are there
abbrev pub invariant-loop-point : goal.invariant-loop-point
invariant-loop-point l = l.list.items ≡ map (λ (p : Point). single.PointFails p.code) (filter is_transfer (take l.point-index l.points))
