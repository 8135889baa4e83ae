use Rattle.std.proofs.Common.{◌≡◌, ◌++◌, take, string_bytes}
use Rattle.std.specs.List.{flat_map}
use Rattle.answers.specs.Warnings.{warning_on_line}
use Rattle.answers.proofs.warnings.put_each_line.Given as goal

abbrev pub invariant-loop-warning : goal.invariant-loop-warning
invariant-loop-warning l = string_bytes l.text ≡ string_bytes l.fn.text ++ flat_map warning_on_line (take l.warning-index l.warnings)
