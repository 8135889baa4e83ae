use Rattle.std.proofs.Common.{rules}
use Rattle.work_units.proofs.jobs.Job.new.Goals as goal

pub returns-in-Err : goal.returns-in-Err
returns-in-Err c = search rules
