use Rattle.script_words.proofs.CommandLemmas.{no_whole}
use Rattle.script_words.proofs.wholes.read_whole_by.Goals as goal

pub returns-in-len1 : goal.returns-in-len1
returns-in-len1 c = no_whole c.args.subject c.args.words.now c.in-len1.len_below
