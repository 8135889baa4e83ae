use Rattle.std.proofs.Common.{rules}
use Rattle.dirty_sets.proofs.touched.Touched.new.Goals as goal

pub returns-clause-index : goal.returns-clause-index
returns-clause-index c = search rules
