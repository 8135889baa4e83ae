use Rattle.std.proofs.Common.{◌≡◌, ◌++◌, take}
use Rattle.std.specs.List.{flat_map}
use Rattle.what_if.specs.Warnings.{failure}
use Rattle.what_if.proofs.warnings.put_failures.Given as goal

-- those of the first ones are there
abbrev pub invariant-loop-effect : goal.invariant-loop-effect
invariant-loop-effect l = l.warnings.items ≡ l.fn.warnings.items ++ flat_map failure (take l.effect-index l.effects)
