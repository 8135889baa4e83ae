use Rattle.std.proofs.Common.{◌≡◌, ◌++◌, take, string_bytes}
use Rattle.std.specs.List.{flat_map}
use Rattle.pictures.specs.Svg.{svg_point}
use Rattle.pictures.proofs.svg.put_points.Given as goal

abbrev pub invariant-loop-point : goal.invariant-loop-point
invariant-loop-point l = string_bytes l.text ≡ string_bytes l.fn.text ++ flat_map (svg_point l.places) (take l.point-index l.points)
