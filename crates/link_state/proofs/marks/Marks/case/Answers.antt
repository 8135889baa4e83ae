use Rattle.std.proofs.Common.{rules}
use Rattle.link_state.proofs.marks.Marks.case.Goals as goal

pub returns-clause-value : goal.returns-clause-value
returns-clause-value c = search rules
