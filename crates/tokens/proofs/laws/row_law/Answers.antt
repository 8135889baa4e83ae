use Rattle.tokens.proofs.RowLemmas.{row_law}
use Rattle.tokens.proofs.laws.row_law.Goals as goal

pub returns : goal.returns
returns c = row_law
