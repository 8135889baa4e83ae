use Rattle.std.proofs.Common.{rules}
use Rattle.net_versions.proofs.versions.Version.number.Goals as goal

pub returns : goal.returns
returns c = search rules
