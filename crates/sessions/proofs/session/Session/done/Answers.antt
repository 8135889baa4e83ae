use Rattle.std.proofs.Common.{rules}
use Rattle.sessions.proofs.session.Session.done.Goals as goal

pub returns-in-Ok-clause-end : goal.returns-in-Ok-clause-end
returns-in-Ok-clause-end g c = search rules
