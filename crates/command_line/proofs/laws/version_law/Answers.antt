use Rattle.std.proofs.Common.{refl}
use Rattle.clap.proofs.OnLiterals.{clap_on_literals}
use Rattle.command_line.proofs.laws.version_law.Goals as goal

pub returns-clause-long : goal.returns-clause-long
unfolding clap_on_literals
returns-clause-long c = λ name. refl

pub returns-clause-short : goal.returns-clause-short
unfolding clap_on_literals
returns-clause-short c = λ name. refl
