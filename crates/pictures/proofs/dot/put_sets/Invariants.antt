use Rattle.std.proofs.Common.{◌≡◌, ◌++◌, take, string_bytes}
use Rattle.std.specs.List.{flat_map}
use Rattle.pictures.specs.Dot.{dot_set}
use Rattle.pictures.proofs.dot.put_sets.Given as goal

abbrev pub invariant-loop-set : goal.invariant-loop-set
invariant-loop-set l = string_bytes l.text ≡ string_bytes l.fn.text ++ flat_map dot_set (take l.set-index l.sets)
