use Rattle.std.proofs.Common.{rules}
use Rattle.work_units.proofs.jobs.Job.of.Goals as goal

pub returns : goal.returns
returns c = search rules
