use Rattle.std.proofs.Common.{rules}
use Rattle.net_sets.proofs.set_questions.set_has_last_link.Goals as goal

pub returns-in-Some : goal.returns-in-Some
returns-in-Some c = search rules
