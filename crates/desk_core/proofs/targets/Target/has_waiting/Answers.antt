use Rattle.std.proofs.Common.{rules}
use Rattle.desk_core.proofs.targets.Target.has_waiting.Goals as goal

pub returns : goal.returns
returns c = search rules
