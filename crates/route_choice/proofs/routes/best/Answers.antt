use Rattle.std.proofs.Common.{arith}
use Rattle.route_choice.specs.Routes.{best, offered}
use Rattle.route_choice.proofs.OfferLemmas.{best_more, best_end, none_better_of}
use Rattle.route_choice.proofs.routes.best.Goals as goal

pub loop-i-init : goal.loop-i-init
loop-i-init c = none_better_of (best (offered c.args.classes.now c.args.fars.now))

pub loop-i-preserved : goal.loop-i-preserved
loop-i-preserved c =
    best_more c.args.classes.now c.args.fars.now c.loop-i.i c.index-classes-i.result _ c.loop-i.best c.best_in.result c.better_of-best.result _
    (omega arith) (omega arith) c.index-classes-i.is c.loop-i.invariant (rw c.as_slice.ensures at c.best_in.ensures) c.better_of-best.ensures

pub returns : goal.returns
returns c = best_end c.args.classes.now c.args.fars.now c.loop-i.i c.loop-i.best _ c.loop-i-test.false c.loop-i.invariant
