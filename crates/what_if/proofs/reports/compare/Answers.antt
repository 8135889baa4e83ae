use Rattle.std.proofs.Common.{rules}
use Rattle.what_if.proofs.reports.compare.Goals as goal

pub returns : goal.returns
returns c = search rules
