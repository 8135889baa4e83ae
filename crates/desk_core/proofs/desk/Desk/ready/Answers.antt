use Rattle.std.proofs.lemmas.Grind.{common_steps}
use Rattle.std.proofs.Common.{rules, arith}
use Rattle.desk_core.proofs.desk.Desk.ready.Goals as goal

pub new_version-requires-clause-none : goal.new_version-requires-clause-none
new_version-requires-clause-none c = grind (arith, common_steps)

pub returns-in-Ok-clause-ready : goal.returns-in-Ok-clause-ready
returns-in-Ok-clause-ready c = search rules

pub returns-in-Err-clause-refused : goal.returns-in-Err-clause-refused
returns-in-Err-clause-refused c = search rules
