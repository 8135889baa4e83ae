use Rattle.std.proofs.Common.{rules}
use Rattle.link_sets.proofs.neighbours.Neighbours.new.Goals as goal

pub returns : goal.returns
returns c = search rules
