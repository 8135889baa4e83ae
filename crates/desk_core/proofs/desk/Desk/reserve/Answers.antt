use Rattle.std.proofs.Common.{rules}
use Rattle.desk_core.proofs.desk.Desk.reserve.Goals as goal

pub returns-in_ok-reserve-clause-ok : goal.returns-in_ok-reserve-clause-ok
returns-in_ok-reserve-clause-ok c = search rules

pub returns-in_ok-reserve-clause-more : goal.returns-in_ok-reserve-clause-more
returns-in_ok-reserve-clause-more c = search rules
