use Rattle.histories.proofs.SeenLemmas.{ended}
use Rattle.histories.proofs.end_law.Goals as goal

pub returns : goal.returns
returns c = ended
