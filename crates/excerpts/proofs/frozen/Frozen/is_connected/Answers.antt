use Rattle.std.proofs.Common.{rules}
use Rattle.excerpts.proofs.frozen.Frozen.is_connected.Goals as goal

pub returns : goal.returns
returns c = search rules
