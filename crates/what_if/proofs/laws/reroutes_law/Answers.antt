use Rattle.what_if.proofs.RerouteLemmas.{each_move}
use Rattle.what_if.proofs.laws.reroutes_law.Goals as goal

pub returns : goal.returns
returns c = each_move
