use Rattle.std.proofs.Common.{refl}
use Rattle.explanations.proofs.list.explanations.Goals as goal

pub returns : goal.returns
returns c = refl
