use Rattle.std.proofs.Common.{refl}
use Rattle.explanations.proofs.list.warnings.Goals as goal

pub returns : goal.returns
returns c = refl
