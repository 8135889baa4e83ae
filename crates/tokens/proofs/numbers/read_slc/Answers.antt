use Rattle.std.proofs.Common.{rules}
use Rattle.tokens.proofs.numbers.read_slc.Goals as goal

pub returns : goal.returns
returns c = search rules
