use Rattle.explanations.proofs.NameLemmas.{letter_finds}
use Rattle.explanations.proofs.laws.letters_law.Goals as goal

pub returns : goal.returns
returns c = letter_finds
