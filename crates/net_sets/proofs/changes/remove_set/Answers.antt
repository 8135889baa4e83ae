use Rattle.std.proofs.Common.{rules}
use Rattle.net_sets.proofs.changes.remove_set.Goals as goal

pub returns-clause-set : goal.returns-clause-set
returns-clause-set c = search rules

pub returns-clause-rest : goal.returns-clause-rest
returns-clause-rest c = search rules
