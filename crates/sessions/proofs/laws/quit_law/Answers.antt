use Rattle.sessions.proofs.QuitWordsLemmas.{quit_ends, quit_goes_on}
use Rattle.sessions.proofs.laws.quit_law.Goals as goal

pub returns-clause-ends : goal.returns-clause-ends
returns-clause-ends c = quit_ends

pub returns-clause-goes_on : goal.returns-clause-goes_on
returns-clause-goes_on c = quit_goes_on
