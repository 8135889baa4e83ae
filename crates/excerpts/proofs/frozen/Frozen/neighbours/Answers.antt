use Rattle.std.proofs.Common.{rules}
use Rattle.excerpts.proofs.frozen.Frozen.neighbours.Goals as goal

pub returns : goal.returns
returns c = search rules
