use Rattle.net_building.proofs.WholeLemmas.{whole_accepted}
use Rattle.net_building.proofs.wholes.events_of_whole.Goals as goal

pub returns-in_err-add_changes_in-in-Set-clause-accepted : goal.returns-in_err-add_changes_in-in-Set-clause-accepted
returns-in_err-add_changes_in-in-Set-clause-accepted c = whole_accepted c.args.net.now c.args.whole c.validity.ensures

pub returns-after-find_set-clause-accepted : goal.returns-after-find_set-clause-accepted
returns-after-find_set-clause-accepted c = whole_accepted c.args.net.now c.args.whole c.validity.ensures

pub returns-in-Point-clause-accepted : goal.returns-in-Point-clause-accepted
returns-in-Point-clause-accepted c = whole_accepted c.args.net.now c.args.whole c.validity.ensures
