use Rattle.std.proofs.Common.{rules}
use Rattle.link_sets.proofs.availability.is_connected.Goals as goal

pub returns-in-Some : goal.returns-in-Some
returns-in-Some c = search rules
