use Rattle.std.proofs.Common.{rules}
use Rattle.desk_core.proofs.desk.Desk.target.Goals as goal

pub returns-in-None : goal.returns-in-None
returns-in-None c = search rules
