use Rattle.std.proofs.Common.{rules}
use Rattle.dirty_sets.proofs.index.TouchIndex.reads.Goals as goal

pub returns : goal.returns
returns c = search rules
