use Rattle.std.proofs.Common.{rules}
use Rattle.sls_share.proofs.share.member_for.Goals as goal

pub returns-then-used-from-clause-share : goal.returns-then-used-from-clause-share
returns-then-used-from-clause-share c = search rules

pub returns-else-used-from-clause-share : goal.returns-else-used-from-clause-share
returns-else-used-from-clause-share c = search rules
