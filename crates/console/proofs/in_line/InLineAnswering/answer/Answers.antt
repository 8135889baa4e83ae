use Rattle.std.proofs.Common.{rules}
use Rattle.console.proofs.in_line.InLineAnswering.answer.Goals as goal

pub returns-clause-command : goal.returns-clause-command
returns-clause-command c = search rules
