use Rattle.std.proofs.Common.{rules}
use Rattle.desk_core.proofs.opening.slot_for.Goals as goal

pub of_same-requires : goal.of_same-requires
of_same-requires c = search rules
