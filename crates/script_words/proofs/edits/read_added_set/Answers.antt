use Rattle.std.proofs.Common.{arith}
use Rattle.script_words.proofs.FormLemmas.{no_added_set}
use Rattle.script_words.proofs.edits.read_added_set.Goals as goal

pub returns-in-len1 : goal.returns-in-len1
returns-in-len1 c = no_added_set c.args.words.now (omega arith)

pub returns-in-len2 : goal.returns-in-len2
returns-in-len2 c = no_added_set c.args.words.now (omega arith)
