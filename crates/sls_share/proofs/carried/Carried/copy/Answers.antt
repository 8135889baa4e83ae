use Rattle.std.proofs.Common.{rules}
use Rattle.sls_share.proofs.carried.Carried.copy.Goals as goal

pub returns : goal.returns
returns c = search rules
