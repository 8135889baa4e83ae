use Rattle.std.proofs.lemmas.Grind.{common_steps}
use Rattle.std.proofs.Common.{arith}
use Rattle.transfer_state.proofs.complaints.are_points.Goals as goal

pub returns : goal.returns
returns c = grind (arith, common_steps)
