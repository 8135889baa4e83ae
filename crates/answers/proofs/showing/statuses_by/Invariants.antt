use Rattle.std.proofs.Common.{◌≡◌, map, take}
use Rattle.excerpts.specs.Excerpt.{source_of}
use Rattle.answers.specs.Shown.{point_statuses}
use Rattle.answers.proofs.showing.statuses_by.Given as goal

abbrev pub invariant-loop-point : goal.invariant-loop-point
invariant-loop-point l = l.statuses.items ≡ map (point_statuses (source_of l.routing.excerpt)) (take l.point-index l.points)
