use Rattle.std.proofs.Common.{arith}
use Rattle.point_codes.proofs.NumberLemmas.{number_law}
use Rattle.tokens.proofs.laws.rank_law.Goals as goal

pub returns : goal.returns
returns c = λ n text. number_law 255 n text (omega arith)
