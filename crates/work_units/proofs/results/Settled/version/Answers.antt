use Rattle.std.proofs.Common.{rules}
use Rattle.work_units.proofs.results.Settled.version.Goals as goal

pub returns : goal.returns
returns c = search rules
