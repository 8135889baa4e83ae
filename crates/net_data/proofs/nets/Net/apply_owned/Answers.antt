use Rattle.std.proofs.Common.{rules}
use Rattle.net_data.proofs.nets.Net.apply_owned.Goals as goal

pub returns-in-SetPlan-clause-answer : goal.returns-in-SetPlan-clause-answer
returns-in-SetPlan-clause-answer c = search rules
