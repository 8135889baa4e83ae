use Rattle.std.proofs.Common.{rules}
use Rattle.plan_rows.proofs.ranks.has_lower.Goals as goal

pub returns-then-noted-ne0 : goal.returns-then-noted-ne0
returns-then-noted-ne0 c = search rules
