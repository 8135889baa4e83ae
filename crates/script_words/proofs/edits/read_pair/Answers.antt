use Rattle.std.proofs.lemmas.Grind.{common_steps}
use Rattle.std.proofs.Common.{arith}
use Rattle.script_words.proofs.FormLemmas.{no_pair}
use Rattle.script_words.proofs.edits.read_pair.Goals as goal

pub returns-in-len1 : goal.returns-in-len1
returns-in-len1 c = no_pair c.args.words.now (λ h. omega arith)

pub returns-in-len3-up : goal.returns-in-len3-up
returns-in-len3-up c = no_pair c.args.words.now (λ h. omega arith)

pub returns-in_ok-other-in-len2 : goal.returns-in_ok-other-in-len2
returns-in_ok-other-in-len2 c = grind (arith, common_steps)
