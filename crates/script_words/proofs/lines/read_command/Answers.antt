use Rattle.std.proofs.lemmas.Result.{IfOk-weaker}
use Rattle.script_words.proofs.CommandLemmas.{said_command}
use Rattle.script_words.proofs.lines.read_command.Goals as goal

pub returns-in-Some-clause-value : goal.returns-in-Some-clause-value
returns-in-Some-clause-value c =
    IfOk-weaker c.read_said.result _ _ (λ command said. said_command c.args.words.now _ c.in-Some.verb command c.in-len1-up.len_at_least c.in-Some.ensures said) c.read_said.ensures.value
