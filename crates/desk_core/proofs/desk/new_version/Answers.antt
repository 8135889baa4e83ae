use Rattle.std.proofs.Common.{rules}
use Rattle.desk_core.proofs.desk.new_version.Goals as goal

pub returns : goal.returns
returns c = search rules

pub new-requires : goal.new-requires
new-requires c = search rules

pub new-requires-2 : goal.new-requires-2
new-requires-2 c = search rules
