use Rattle.std.proofs.lemmas.Grind.{common_steps}
use Rattle.std.proofs.Common.{arith}
use Rattle.desk_core.proofs.desk.Desk.last_seq.Goals as goal

pub returns : goal.returns
returns c = grind (arith, common_steps)
