use Rattle.what_if.proofs.RerouteLemmas.{no_reroute}
use Rattle.what_if.proofs.moving.RerouteDifference.stays.Goals as goal

pub returns : goal.returns
returns c = no_reroute
