use Rattle.std.proofs.Common.{rules}
use Rattle.transfer_state.proofs.routing.Routing.choice.Goals as goal

pub returns : goal.returns
returns c = search rules
