use Rattle.pictures.proofs.LawLemmas.{points_show, sets_show}
use Rattle.pictures.proofs.laws.picture_law.Goals as goal

pub returns-clause-points : goal.returns-clause-points
returns-clause-points c = points_show

pub returns-clause-sets : goal.returns-clause-sets
returns-clause-sets c = sets_show
