use Rattle.beside.proofs.WorkersLemmas.{word_refused}
use Rattle.beside.proofs.laws.workers_law.Goals as goal

pub returns : goal.returns
returns c = λ first rest command seats old new answer says is does. word_refused first rest command says is seats old new answer does
