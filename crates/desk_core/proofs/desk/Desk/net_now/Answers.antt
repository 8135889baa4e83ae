use Rattle.std.proofs.Common.{rules}
use Rattle.desk_core.proofs.desk.Desk.net_now.Goals as goal

pub returns : goal.returns
returns c = search rules
