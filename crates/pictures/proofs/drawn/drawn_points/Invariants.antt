use Rattle.std.proofs.Common.{◌≡◌, take, map}
use Rattle.pictures.specs.Shown.{drawn_point}
use Rattle.pictures.proofs.drawn.drawn_points.Given as goal

abbrev pub invariant-loop-point : goal.invariant-loop-point
invariant-loop-point l = l.drawn.items ≡ map (drawn_point l.shown) (take l.point-index l.net.points)
