use Rattle.std.proofs.Common.{arith}
use Rattle.pictures.proofs.LayoutLemmas.{most_step}
use Rattle.pictures.proofs.frame.most_ends.Goals as goal

pub loop-hub-preserved : goal.loop-hub-preserved
loop-hub-preserved c = record {
  most = most_step c.args.stands.now c.args.hubs.now c.loop-hub.hub-index c.hub-item.result _ _ _ c.loop-hub-test.true c.hub-item.is c.loop-hub.invariant.most c.end_count.ensures.value c.max-most.ensures;
  few = omega arith;
}
