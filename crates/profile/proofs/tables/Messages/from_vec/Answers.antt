use Rattle.std.proofs.Common.{rules}
use Rattle.profile.proofs.tables.Messages.from_vec.Goals as goal

pub returns : goal.returns
returns c = search rules
