use Rattle.net_text.proofs.SaysLemmas.{one_answer}
use Rattle.net_text.proofs.laws.one_answer_law.Goals as goal

pub returns : goal.returns
returns c = one_answer
