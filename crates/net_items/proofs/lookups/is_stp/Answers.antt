use Rattle.std.proofs.Common.{rules}
use Rattle.net_items.proofs.lookups.is_stp.Goals as goal

pub returns-in-Stp : goal.returns-in-Stp
returns-in-Stp c = search rules
