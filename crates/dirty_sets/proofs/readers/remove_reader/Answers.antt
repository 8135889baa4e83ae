use Rattle.std.proofs.Common.{rules}
use Rattle.dirty_sets.proofs.readers.remove_reader.Goals as goal

pub returns : goal.returns
returns c = search rules
