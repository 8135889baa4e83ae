use Rattle.std.proofs.Common.{◌≡◌, take, map}
use Rattle.pictures.specs.Layout.{stand_of}
use Rattle.pictures.proofs.stands.stands_of.Given as goal

abbrev pub invariant-loop-point : goal.invariant-loop-point
invariant-loop-point l = l.stands.items ≡ map (stand_of l.net) (take l.point-index l.net.points)
