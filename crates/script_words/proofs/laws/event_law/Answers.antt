use Rattle.script_words.proofs.EventWordsLemmas.{event_law}
use Rattle.script_words.proofs.laws.event_law.Goals as goal

pub returns : goal.returns
returns c = event_law
