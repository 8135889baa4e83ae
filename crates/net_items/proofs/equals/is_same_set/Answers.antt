use Rattle.std.proofs.Common.{rules}
use Rattle.net_items.proofs.equals.is_same_set.Goals as goal

pub returns-then-eq-2 : goal.returns-then-eq-2
returns-then-eq-2 c = search rules
