use Rattle.std.proofs.Common.{rules}
use Rattle.tokens.proofs.numbers.read_code.Goals as goal

pub returns-in-Ok : goal.returns-in-Ok
returns-in-Ok c = search rules
