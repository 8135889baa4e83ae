use Rattle.std.proofs.Common.{rules}
use Rattle.explanations.proofs.list.find_warning.Goals as goal

pub returns : goal.returns
returns c = search rules
