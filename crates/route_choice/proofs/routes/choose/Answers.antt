use Rattle.std.proofs.Common.{rules}
use Rattle.route_choice.proofs.routes.choose.Goals as goal

pub returns : goal.returns
returns c = search rules
