use Rattle.std.proofs.Common.{rules}
use Rattle.excerpts.proofs.frozen.Frozen.new.Goals as goal

pub returns : goal.returns
returns c = search rules
