use Rattle.std.proofs.Common.{rules}
use Rattle.link_state.proofs.marks.Marks.available.Goals as goal

pub returns : goal.returns
returns c = search rules
