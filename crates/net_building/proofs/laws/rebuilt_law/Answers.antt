use Rattle.net_building.proofs.RebuildingLemmas.{network_made}
use Rattle.net_building.proofs.laws.rebuilt_law.Goals as goal

-- the points, pairs, sets and plans are made in turn
pub returns : goal.returns
returns c = network_made
