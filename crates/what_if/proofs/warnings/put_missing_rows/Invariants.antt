use Rattle.std.proofs.Common.{◌≡◌, ◌++◌, take}
use Rattle.std.specs.List.{flat_map}
use Rattle.what_if.specs.Warnings.{missing_row}
use Rattle.what_if.proofs.warnings.put_missing_rows.Given as goal

-- those of the first ones are there
abbrev pub invariant-loop-point : goal.invariant-loop-point
invariant-loop-point l = l.warnings.items ≡ l.fn.warnings.items ++ flat_map (missing_row l.net.sets l.plan) (take l.point-index l.net.points)
