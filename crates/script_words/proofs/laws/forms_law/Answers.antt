use Rattle.script_words.proofs.FormTableLemmas.{examples, complete}
use Rattle.script_words.proofs.laws.forms_law.Goals as goal

pub returns-clause-examples : goal.returns-clause-examples
returns-clause-examples c = examples

pub returns-clause-complete : goal.returns-clause-complete
returns-clause-complete c = complete
