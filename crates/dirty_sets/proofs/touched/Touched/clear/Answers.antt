use Rattle.std.proofs.Common.{rules}
use Rattle.dirty_sets.proofs.touched.Touched.clear.Goals as goal

pub returns-clause-clear : goal.returns-clause-clear
returns-clause-clear c = search rules
