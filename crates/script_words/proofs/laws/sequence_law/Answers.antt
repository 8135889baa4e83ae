use Rattle.script_words.proofs.NumberLemmas.{sequence_law}
use Rattle.script_words.proofs.laws.sequence_law.Goals as goal

pub returns : goal.returns
returns c = sequence_law
