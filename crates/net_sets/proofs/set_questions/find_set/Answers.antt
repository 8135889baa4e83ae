use Rattle.std.proofs.Common.{rules}
use Rattle.net_sets.proofs.set_questions.find_set.Goals as goal

pub returns-in-Ok : goal.returns-in-Ok
returns-in-Ok c = search rules
