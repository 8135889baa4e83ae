use Rattle.point_codes.proofs.NumberLemmas.{number_law}
use Rattle.point_codes.proofs.laws.number_law.Goals as goal

pub returns : goal.returns
returns c = number_law
