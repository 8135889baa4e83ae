use Rattle.std.proofs.Common.{arith}
use Rattle.script_words.proofs.CommandLemmas.{no_trace}
use Rattle.script_words.proofs.queries.read_trace.Goals as goal

pub returns-in-len1-clause-value : goal.returns-in-len1-clause-value
returns-in-len1-clause-value c = no_trace c.args.words.now (λ h. omega arith)

pub returns-in-len2-clause-value : goal.returns-in-len2-clause-value
returns-in-len2-clause-value c = no_trace c.args.words.now (λ h. omega arith)

pub returns-in-len4-up-clause-value : goal.returns-in-len4-up-clause-value
returns-in-len4-up-clause-value c = no_trace c.args.words.now (λ h. omega arith)
