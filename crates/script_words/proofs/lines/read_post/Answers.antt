use Rattle.std.proofs.Common.{arith}
use Rattle.script_words.proofs.CommandLemmas.{no_post}
use Rattle.script_words.proofs.lines.read_post.Goals as goal

pub returns-in-len1-clause-value : goal.returns-in-len1-clause-value
returns-in-len1-clause-value c = no_post c.args.words.now (omega arith)
