use Rattle.std.proofs.Common.{rules}
use Rattle.desk_core.proofs.desk.Desk.waiting.Goals as goal

pub returns-in-Some : goal.returns-in-Some
returns-in-Some c = search rules
