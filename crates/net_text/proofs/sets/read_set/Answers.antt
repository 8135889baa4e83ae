use Rattle.std.proofs.Common.{arith}
use Rattle.net_text.proofs.EntryLemmas.{no_set}
use Rattle.net_text.proofs.sets.read_set.Goals as goal

pub returns-in-len1 : goal.returns-in-len1
returns-in-len1 c = no_set c.args.format c.args.words.now (omega arith)

pub returns-in-len2 : goal.returns-in-len2
returns-in-len2 c = no_set c.args.format c.args.words.now (omega arith)
