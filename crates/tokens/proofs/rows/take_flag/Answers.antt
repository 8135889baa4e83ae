use Rattle.std.proofs.Common.{rules}
use Rattle.tokens.proofs.rows.take_flag.Goals as goal

pub returns-then-eq : goal.returns-then-eq
returns-then-eq c = search rules
