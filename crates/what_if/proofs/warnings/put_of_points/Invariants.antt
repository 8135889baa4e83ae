use Rattle.std.proofs.Common.{◌≡◌, ◌++◌, take}
use Rattle.std.specs.List.{flat_map}
use Rattle.what_if.specs.Warnings.{point_warnings}
use Rattle.what_if.proofs.warnings.put_of_points.Given as goal

-- those of the first ones are there
abbrev pub invariant-loop-point : goal.invariant-loop-point
invariant-loop-point l = l.warnings.items ≡ l.fn.warnings.items ++ flat_map (point_warnings l.net.plans) (take l.point-index l.net.points)
