use Rattle.versions.proofs.SeatLemmas.{alone}
use Rattle.versions.proofs.laws.alone_law.Goals as goal

pub returns : goal.returns
returns c = alone
