use Rattle.std.proofs.Common.{rules}
use Rattle.desk_core.proofs.desk.Desk.give.Goals as goal

pub give_own-requires : goal.give_own-requires
give_own-requires c = search rules
