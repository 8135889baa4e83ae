use Rattle.std.proofs.Common.{rules}
use Rattle.net_items.proofs.lookups.find_point.Goals as goal

pub returns-in-Ok : goal.returns-in-Ok
returns-in-Ok c = search rules
