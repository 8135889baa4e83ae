use Rattle.std.proofs.Common.{rules}
use Rattle.transfer_state.proofs.routes.messages_at.Goals as goal

pub returns-in_ok-messages_of-in-Some : goal.returns-in_ok-messages_of-in-Some
returns-in_ok-messages_of-in-Some c = search rules
