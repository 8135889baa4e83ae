use Rattle.std.proofs.Common.{rules}
use Rattle.net_items.proofs.lookups.mate_of.Goals as goal

pub returns-in-Some : goal.returns-in-Some
returns-in-Some c = search rules
