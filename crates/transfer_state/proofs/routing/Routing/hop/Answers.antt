use Rattle.std.proofs.Common.{rules}
use Rattle.transfer_state.proofs.routing.Routing.hop.Goals as goal

pub returns : goal.returns
returns c = search rules
