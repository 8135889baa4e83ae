use Rattle.std.proofs.Common.{rules}
use Rattle.desk_core.proofs.desk.Desk.refusal_out.Goals as goal

pub returns-then-not-is_out : goal.returns-then-not-is_out
returns-then-not-is_out c = search rules

pub returns-else-not-is_out : goal.returns-else-not-is_out
returns-else-not-is_out c = search rules
