use Rattle.std.proofs.lemmas.Grind.{common_steps}
use Rattle.std.proofs.Common.{arith}
use Rattle.tokens.proofs.marked.read_marked.Goals as goal

pub returns-in_err-marks-in-One : goal.returns-in_err-marks-in-One
returns-in_err-marks-in-One c = grind (arith, common_steps)

pub returns-in_ok-marks-in-One : goal.returns-in_ok-marks-in-One
returns-in_ok-marks-in-One c = grind (arith, common_steps)
