use Rattle.std.proofs.Common.{rules}
use Rattle.explanations.proofs.explanation.write_explanation.Goals as goal

pub returns : goal.returns
returns c = search rules
