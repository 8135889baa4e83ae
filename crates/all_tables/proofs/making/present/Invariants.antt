use Rattle.std.proofs.Common.{◌≡◌}
use Rattle.all_tables.specs.Tables.{those_there}
use Rattle.all_tables.proofs.making.present.Given as goal

abbrev pub invariant-loop-one : goal.invariant-loop-one
invariant-loop-one l = l.tables.items ≡ those_there l.yielded
