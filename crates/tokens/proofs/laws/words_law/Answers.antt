use Rattle.tokens.proofs.WordsLemmas.{words_back}
use Rattle.tokens.proofs.laws.words_law.Goals as goal

pub returns : goal.returns
returns c = words_back
