use Rattle.std.proofs.Common.{rules}
use Rattle.explanations.proofs.edits.explain_edit.Goals as goal

pub returns-in-NoSet-clause-title : goal.returns-in-NoSet-clause-title
returns-in-NoSet-clause-title c = search rules
