use Rattle.std.proofs.Common.{rules}
use Rattle.link_state.proofs.marks.Marks.after.Goals as goal

pub returns-in-Block-Second : goal.returns-in-Block-Second
returns-in-Block-Second c = search rules
