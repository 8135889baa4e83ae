use Rattle.std.proofs.Common.{rules}
use Rattle.net_data.proofs.nets.Net.apply.Goals as goal

pub returns-in-Err-clause-answer : goal.returns-in-Err-clause-answer
returns-in-Err-clause-answer c = search rules
