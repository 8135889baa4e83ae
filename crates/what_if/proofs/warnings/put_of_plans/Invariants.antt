use Rattle.std.proofs.Common.{◌≡◌, ◌++◌, take}
use Rattle.std.specs.List.{flat_map}
use Rattle.what_if.specs.Warnings.{plan_warnings}
use Rattle.what_if.proofs.warnings.put_of_plans.Given as goal

-- those of the first plans are there
abbrev pub invariant-loop-position : goal.invariant-loop-position
invariant-loop-position l = l.warnings.items ≡ l.fn.warnings.items ++ flat_map (plan_warnings l.net) (take l.position l.net.plans)
