use Rattle.histories.proofs.SeenLemmas.{nth_taken}
use Rattle.histories.proofs.nth_law.Goals as goal

pub returns : goal.returns
returns c = nth_taken
