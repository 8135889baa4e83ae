use Rattle.std.specs.Arc.{arc_value}
use Rattle.excerpts.specs.Index.{AreSameEnds}
use Rattle.excerpts.proofs.SharedLemmas.{index_shared}
use Rattle.excerpts.proofs.indexed.Indexed.after.Goals as goal

-- the joints of the network before lead to the sets of this one too
pub by-requires : goal.by-requires
by-requires c =
    let same : AreSameEnds c.before-2.inside.net.sets c.args.net.sets = rw (c.sets.ensures, c.sets-2.ensures) at (c.are_same_ends.ensures c.if-not-are_same_ends.false) in
    rw c.in_ok-joints.ensures (index_shared (arc_value c.before-2.inside.joints) c.before-2.inside.net.sets c.args.net.sets c.before-2.invariant.joints same c.validity.ensures.one_per_pair)
