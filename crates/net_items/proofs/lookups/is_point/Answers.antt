use Rattle.std.proofs.Common.{rules}
use Rattle.net_items.proofs.lookups.is_point.Goals as goal

pub returns : goal.returns
returns c = search rules
