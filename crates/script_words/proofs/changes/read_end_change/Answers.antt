use Rattle.std.proofs.lemmas.Grind.{common_steps}
use Rattle.std.proofs.Common.{arith}
use Rattle.script_words.proofs.FormLemmas.{no_end_change}
use Rattle.script_words.proofs.changes.read_end_change.Goals as goal

pub returns-in-len1 : goal.returns-in-len1
returns-in-len1 c = no_end_change c.args.first c.args.second c.args.words.now (λ h. omega arith) (λ h. omega arith)

pub returns-in-len4-up : goal.returns-in-len4-up
returns-in-len4-up c = no_end_change c.args.first c.args.second c.args.words.now (λ h. omega arith) (λ h. omega arith)

pub returns-in-len2 : goal.returns-in-len2
returns-in-len2 c = grind (arith, common_steps)
