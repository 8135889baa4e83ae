use Rattle.std.proofs.Common.{arith}
use Rattle.script_words.proofs.CommandLemmas.{no_about}
use Rattle.script_words.proofs.queries.read_about.Goals as goal

pub returns-in-len1-clause-value : goal.returns-in-len1-clause-value
returns-in-len1-clause-value c = no_about c.args.asked c.args.words.now (λ h. omega arith)

pub returns-in-len3-up-clause-value : goal.returns-in-len3-up-clause-value
returns-in-len3-up-clause-value c = no_about c.args.asked c.args.words.now (λ h. omega arith)
