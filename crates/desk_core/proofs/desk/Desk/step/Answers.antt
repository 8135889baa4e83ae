use Rattle.std.proofs.Common.{rules}
use Rattle.desk_core.proofs.desk.Desk.step.Goals as goal

pub returns-in-Take : goal.returns-in-Take
returns-in-Take c = search rules
