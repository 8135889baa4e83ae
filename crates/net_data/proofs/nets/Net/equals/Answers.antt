use Rattle.std.proofs.Common.{rules}
use Rattle.net_data.proofs.nets.Net.equals.Goals as goal

pub returns-then-equals : goal.returns-then-equals
returns-then-equals c = search rules
