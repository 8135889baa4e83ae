use Rattle.std.proofs.Common.{arith}
use Rattle.script_words.proofs.FormLemmas.{no_added_point}
use Rattle.script_words.proofs.edits.read_added_point.Goals as goal

pub returns-in-len1 : goal.returns-in-len1
returns-in-len1 c = no_added_point c.args.words.now (λ h. omega arith)

pub returns-in-len3-up : goal.returns-in-len3-up
returns-in-len3-up c = no_added_point c.args.words.now (λ h. omega arith)
