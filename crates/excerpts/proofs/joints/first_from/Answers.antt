use Rattle.excerpts.proofs.FirstLemmas.{first_here}
use Rattle.excerpts.proofs.joints.first_from.Goals as goal

pub returns-else-joints-at : goal.returns-else-joints-at
returns-else-joints-at c =
    first_here c.args.joints.now c.args.pair c.loop-at.at c.requires.rise c.loop-at.invariant.within c.loop-at.invariant.less (λ more. c.if-joints-at.false)
