use Rattle.std.proofs.Common.{◌≡◌, ◌++◌, take}
use Rattle.std.specs.List.{flat_map}
use Rattle.what_if.specs.Warnings.{unused}
use Rattle.what_if.proofs.warnings.put_of_sets.Given as goal

-- those of the first ones are there
abbrev pub invariant-loop-set : goal.invariant-loop-set
invariant-loop-set l = l.warnings.items ≡ l.fn.warnings.items ++ flat_map (unused l.net) (take l.set-index l.net.sets)
