use Rattle.std.proofs.Common.{arith, ap, ◌∙◌, ◌<◌}
use Rattle.std.specs.Arc.{arc_value}
use Rattle.link_sets.specs.Availability.{connected}
use Rattle.link_sets.specs.Neighbours.{next_from}
use Rattle.net_data.specs.Network.{Network}
use Rattle.excerpts.proofs.IndexLemmas.{next_agreed}
use Rattle.excerpts.proofs.indexed.Indexed.next_near.Goals as goal

-- the joints of the point tell of each other point whether it is joined
pub returns-clause-value : goal.returns-clause-value
returns-clause-value c =
    let y_small : c.args.point < 16384 = omega arith in
    (rw c.sets.ensures at c.next_up.ensures.value)
    ∙ next_agreed c.of_point.result.now (arc_value c.self.inside.joints) c.self.inside.net.sets c.args.point c.args.from y_small c.self.invariant.joints (rw c.deref.ensures at c.of_point.ensures.tells)
    ∙ ap (λ (net : Network). next_from (connected net.sets c.args.point) c.args.from) c.self.view_is
