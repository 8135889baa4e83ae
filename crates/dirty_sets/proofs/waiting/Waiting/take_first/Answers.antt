use Rattle.std.proofs.Common.{rules}
use Rattle.dirty_sets.proofs.waiting.Waiting.take_first.Goals as goal

pub returns-clause-after : goal.returns-clause-after
returns-clause-after c = search rules
