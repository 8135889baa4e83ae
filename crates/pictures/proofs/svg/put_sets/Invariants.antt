use Rattle.std.proofs.Common.{◌≡◌, ◌++◌, take, string_bytes}
use Rattle.std.specs.List.{flat_map}
use Rattle.pictures.specs.Svg.{svg_set}
use Rattle.pictures.proofs.svg.put_sets.Given as goal

abbrev pub invariant-loop-placed : goal.invariant-loop-placed
invariant-loop-placed l = string_bytes l.text ≡ string_bytes l.fn.text ++ flat_map svg_set (take l.placed-index l.sets)
