use Rattle.std.proofs.Common.{rules}
use Rattle.profile.proofs.tables.RowLinks.new.Goals as goal

pub returns : goal.returns
returns c = search rules
