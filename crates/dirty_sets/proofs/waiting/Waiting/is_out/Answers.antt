use Rattle.std.proofs.Common.{rules}
use Rattle.dirty_sets.proofs.waiting.Waiting.is_out.Goals as goal

pub returns-in-Some : goal.returns-in-Some
returns-in-Some c = search rules
