use Rattle.std.proofs.Common.{rules}
use Rattle.profile.proofs.tables.RowState.copy.Goals as goal

pub returns : goal.returns
returns c = search rules
