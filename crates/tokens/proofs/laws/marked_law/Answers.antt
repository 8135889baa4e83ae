use Rattle.tokens.proofs.MarkedLemmas.{marked_law}
use Rattle.tokens.proofs.laws.marked_law.Goals as goal

pub returns : goal.returns
returns c = marked_law
