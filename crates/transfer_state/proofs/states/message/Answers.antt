use Rattle.std.proofs.Common.{rules}
use Rattle.transfer_state.proofs.states.message.Goals as goal

pub returns-in-Allowed : goal.returns-in-Allowed
returns-in-Allowed c = search rules

pub returns-in-Restricted : goal.returns-in-Restricted
returns-in-Restricted c = search rules
