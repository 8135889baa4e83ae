use Rattle.std.proofs.Common.{rules}
use Rattle.net_data.proofs.nets.Net.refusal_of_remove_link.Goals as goal

pub returns : goal.returns
returns c = search rules
