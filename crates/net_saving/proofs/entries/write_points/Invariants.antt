use Rattle.std.proofs.Common.{◌≡◌, take, map}
use Rattle.toml.specs.Data.{string}
use Rattle.toml.specs.View.{view}
use Rattle.tokens.specs.Entries.{point_text}
use Rattle.net_saving.proofs.entries.write_points.Given as goal

abbrev pub invariant-loop-point : goal.invariant-loop-point
invariant-loop-point l = map view l.values.items ≡ map (λ x. string (point_text x)) (take l.point-index l.points)
