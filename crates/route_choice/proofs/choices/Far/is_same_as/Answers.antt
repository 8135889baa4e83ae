use Rattle.std.proofs.Common.{rules}
use Rattle.route_choice.proofs.choices.Far.is_same_as.Goals as goal

pub returns : goal.returns
returns c = search rules
