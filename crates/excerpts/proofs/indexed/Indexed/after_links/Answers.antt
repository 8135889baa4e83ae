use Rattle.std.proofs.Common.{◌∙◌, ap}
use Rattle.std.specs.Arc.{arc_value}
use Rattle.net_data.specs.Network.{Network}
use Rattle.excerpts.specs.Index.{AreSameEnds}
use Rattle.excerpts.proofs.LinkedLemmas.{ends_after}
use Rattle.excerpts.proofs.SharedLemmas.{index_shared}
use Rattle.excerpts.proofs.indexed.Indexed.after_links.Goals as goal

-- the joints of the network before lead to the sets of this one too
pub invariant_of-result : goal.invariant_of-result
invariant_of-result c =
    let same : AreSameEnds c.before-2.inside.net.sets c.args.net.sets
    = rw (← c.before-2.view_is) at (ends_after c.args.before.now c.args.net c.args.events.now c.requires.made c.requires.links) in
    record {
      joints = rw c.in_ok-joints.ensures (index_shared (arc_value c.before-2.inside.joints) c.before-2.inside.net.sets c.args.net.sets c.before-2.invariant.joints same c.validity.ensures.one_per_pair);
      intact = c.in_ok-intact.ensures;
    }
