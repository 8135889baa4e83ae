use Rattle.std.proofs.Common.{◌∙◌}
use Rattle.what_if.proofs.GatheringLemmas.{row_status_is}
use Rattle.what_if.proofs.comparing.status_of.Goals as goal

pub returns-in-Some : goal.returns-in-Some
returns-in-Some c = rw c.in-Some.is (c.row_status.ensures ∙ row_status_is c.in-Some.routing.now.excerpt c.args.point)
