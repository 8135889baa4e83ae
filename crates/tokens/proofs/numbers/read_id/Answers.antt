use Rattle.std.proofs.Common.{rules}
use Rattle.tokens.proofs.numbers.read_id.Goals as goal

pub returns-in_err-id : goal.returns-in_err-id
returns-in_err-id c = search rules
