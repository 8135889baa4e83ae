use Rattle.std.proofs.Common.{rules}
use Rattle.net_data.proofs.events.Event.copy.Goals as goal

pub returns-clause-copy : goal.returns-clause-copy
returns-clause-copy c = search rules
