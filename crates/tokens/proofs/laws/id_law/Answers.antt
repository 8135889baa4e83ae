use Rattle.std.proofs.Common.{arith}
use Rattle.point_codes.proofs.NumberLemmas.{number_law}
use Rattle.tokens.proofs.laws.id_law.Goals as goal

pub returns : goal.returns
returns c = λ n text. number_law 65535 n text (omega arith)
