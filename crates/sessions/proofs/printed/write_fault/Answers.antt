use Rattle.std.proofs.Common.{rules}
use Rattle.sessions.proofs.printed.write_fault.Goals as goal

pub returns-in-Write : goal.returns-in-Write
returns-in-Write c = search rules
