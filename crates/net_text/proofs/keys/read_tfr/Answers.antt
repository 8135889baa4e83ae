use Rattle.std.proofs.Common.{rules}
use Rattle.net_text.proofs.keys.read_tfr.Goals as goal

pub returns-in-None : goal.returns-in-None
returns-in-None c = search rules
