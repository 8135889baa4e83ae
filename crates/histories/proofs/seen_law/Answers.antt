use Rattle.histories.proofs.SeenLemmas.{seen_in}
use Rattle.histories.proofs.seen_law.Goals as goal

pub returns : goal.returns
returns c = seen_in
