use Rattle.std.proofs.Common.{rules}
use Rattle.sls_share.proofs.share.probe.Goals as goal

pub returns-else-j-eq0-clause-value : goal.returns-else-j-eq0-clause-value
returns-else-j-eq0-clause-value c = search rules
