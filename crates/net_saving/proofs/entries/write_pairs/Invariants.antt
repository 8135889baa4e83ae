use Rattle.std.proofs.Common.{◌≡◌, take, map}
use Rattle.std.specs.List.{flat_map}
use Rattle.toml.specs.Data.{string}
use Rattle.toml.specs.View.{view}
use Rattle.net_saving.specs.Writing.{pair_texts}
use Rattle.net_saving.proofs.entries.write_pairs.Given as goal

abbrev pub invariant-loop-point : goal.invariant-loop-point
invariant-loop-point l = map view l.values.items ≡ map string (flat_map pair_texts (take l.point-index l.points))
