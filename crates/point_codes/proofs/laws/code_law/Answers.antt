use Rattle.point_codes.proofs.CodeLemmas.{code_law}
use Rattle.point_codes.proofs.laws.code_law.Goals as goal

pub returns : goal.returns
returns c = code_law
